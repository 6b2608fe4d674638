-- Pasts that turns go on, and pasts in which each round's start takes its marks one by one, in whatever order the post picks them.
use Rattle.std.specs.Prelude.{◌≡◌, ℕ, true, ◌&&◌, List, [], ◌∷◌, ◌++◌, Ok, nat_le}
use Rattle.plan.specs.declared.area.Area.{Area}
use Rattle.plan.specs.Plans.{is_plan}
use Rattle.post.specs.declared.Mark.{Mark}
use Rattle.post.specs.Marks.{Waits}
use Rattle.post.specs.Orders.{Run, Whole}
use Rattle.state.specs.declared.message.Message.TheVariants as messages
use Rattle.state.specs.Layout.{Layout, layout_of, top, slot_count, lowest, first_in, last_of}
use Rattle.state.specs.Memory.{World}
use Rattle.state.specs.Messages.{decoded}
use Rattle.state.specs.Turns.{on_memory, entries_recovered, roots_shaded, pass_begun, clear_at}
use Rattle.state.specs.Drains.{marks_taken}
use Rattle.state.specs.Calls.{Call, message, answered, made}
use Rattle.state.specs.Pasts.{MarksOf, Past, resting, turns_done}

-- The message asks for a turn that starts a round of area a.
pub record StartsRound (plan : Layout) (size : ℕ) (w : World) (bytes : List ℕ) (a : ℕ) : Type 0 where
  pub fits : nat_le (slot_count plan) size ≡ true
  pub turn : decoded bytes ≡ Ok (messages.Turn a)
  pub low : lowest plan a ≡ true
  pub rests : resting w a ≡ true

-- A round of area a starts, and its takes answer these marks and leave this set.
abbrev pub started_by : Layout → ℕ → List Mark → Waits → World → World
started_by plan a marks left w =
    on_memory (λ s. pass_begun plan a (top plan) (roots_shaded plan a (entries_recovered plan a s)))
    (record { memory = marks_taken plan a marks w.memory; waits = left })

-- What a call leaves, whichever waiting mark each of its takes picked: a round's start takes marks until none waits in its area; any
-- other call takes none, and does what the rules say.
pub data Leaves (plan : Layout) (size : ℕ) (w : World) : Call → World → Type 0 where
  round_starts : (bytes : List ℕ) (a : ℕ) → StartsRound plan size w bytes a → (marks : List Mark) (left : Waits) → Whole (first_in plan a) (last_of plan a) w.waits marks left →
      Leaves plan size w (message bytes) (started_by plan a marks left w)
  no_takes : (c : Call) → ((bytes : List ℕ) (a : ℕ) → c ≡ message bytes → StartsRound plan size w bytes a → ⊥) → Leaves plan size w c (answered plan size c w).world

-- The world came about by the making with these waiting marks and then these calls, the last one first, whichever marks were picked.
pub data PickedPast (plan : Layout) (size : ℕ) : List Call → World → Type 0 where
  making : (w : Waits) → MarksOf size w → (v : World) → made plan size w ≡ Ok v → PickedPast plan size [] v
  then : {calls : List Call} {w v : World} → PickedPast plan size calls w → (c : Call) → Leaves plan size w c v → PickedPast plan size (c ∷ calls) v

-- Two pasts with the same calls end in the same memory and the same set, whatever was picked.
abbrev pub SameCallsSameEnd : Type 0
SameCallsSameEnd =
    (areas : List Area) → is_plan areas ≡ true → (size : ℕ) (calls : List Call) (v v' : World) →
    PickedPast (layout_of areas) size calls v → PickedPast (layout_of areas) size calls v' → v ≡ v'

-- Such a past is one by the rules, so all that is promised of these holds of it.
abbrev pub PickedPastsArePasts : Type 0
PickedPastsArePasts =
    (areas : List Area) → is_plan areas ≡ true → (size : ℕ) (calls : List Call) (w : World) → PickedPast (layout_of areas) size calls w → Past (layout_of areas) size w

-- What turns alone lead to after a past came about by a past: so one may begin to count anywhere among them.
abbrev pub TurnsGoOnAPast : Type 0
TurnsGoOnAPast =
    (areas : List Area) (size : ℕ) (w : World) → Past (layout_of areas) size w →
    (turns : List ℕ) → Past (layout_of areas) size (turns_done (layout_of areas) turns w)

-- No mark that a round's start takes is dropped: each can be set when it is taken.
abbrev pub NoTakenMarkIsDropped : Type 0
NoTakenMarkIsDropped =
    (areas : List Area) → is_plan areas ≡ true → (size : ℕ) (w : World) → Past (layout_of areas) size w →
    (a : ℕ) → lowest (layout_of areas) a ≡ true →
    (before : List Mark) (k : Mark) (left : Waits) → Run (first_in (layout_of areas) a) (last_of (layout_of areas) a) w.waits (before ++ k ∷ []) left →
    (nat_le k.level (top (layout_of areas)) && clear_at (marks_taken (layout_of areas) a before w.memory) k.block k.entry k.level) ≡ true
