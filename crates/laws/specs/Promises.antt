-- What the rules promise: for every accepted plan, every past and every post. Each statement takes its figures, or the relation that it speaks of, as arguments.
use Rattle.std.specs.Prelude.{◌≡◌, ℕ, suc, ◌≤◌, true, false, List, length}
use Rattle.chain.specs.Chain.{numbered}
use Rattle.plan.specs.declared.area.Area.{Area}
use Rattle.plan.specs.Plans.{is_plan}
use Rattle.plan.specs.Walk.{area_at}
use Rattle.state.specs.Layout.{Layout, layout_of, top, slot_count, lowest, area_size}
use Rattle.state.specs.Memory.{Memory, World}
use Rattle.state.specs.Calls.{Call, answered}
use Rattle.state.specs.Pasts.{Past, Recovers, Free, turns_done, marking, round_ends, marking_ends, recovery_ends, times, turns_of, Laps}

-- No call of any past recovers a block of which P held when the call came.
abbrev pub NoCallRecovers : (Memory → ℕ → Type 0) → Type 0
NoCallRecovers P =
    (areas : List Area) → is_plan areas ≡ true → (size : ℕ) (w : World) → Past (layout_of areas) size w →
    (c : Call) (b : ℕ) → P w.memory b → Recovers w.memory (answered (layout_of areas) size c w).world.memory b → ⊥

-- Every area of level l ends n recoveries in these turns.
abbrev pub RecoveriesEnd : Layout → ℕ → ℕ → List ℕ → World → Type 0
RecoveriesEnd plan n l part w =
    (x : ℕ) → numbered (length plan.areas) x ≡ true → (area_at plan.areas x).level ≡ l → n ≤ times plan (recovery_ends x) part w

-- Turns alone that lead from w to v, level by level downward from level l to level 2, each level in a part of its own, in which each of
-- its areas ends n recoveries.
pub data Downward (plan : Layout) (n : ℕ) : ℕ → World → World → Type 0 where
  down_to_one : {w : World} → Downward plan n 1 w w
  level_part : {l : ℕ} {w v : World} (part : List ℕ) → RecoveriesEnd plan n (suc l) part w → Downward plan n l (turns_done plan part w) v → Downward plan n (suc l) w v

-- After any past let turns alone follow: in a first part the top area ends so many recoveries; then, level by level downward, every area
-- of the level ends as many; then every lowest area ends so many rounds. Then every slot is free but those of which P held when the turns
-- began.
abbrev pub TurnsAloneRecoverAllBut : (Memory → ℕ → Type 0) → ℕ → ℕ → Type 0
TurnsAloneRecoverAllBut P recoveries rounds =
    (areas : List Area) → is_plan areas ≡ true → (size : ℕ) (w : World) → Past (layout_of areas) size w →
    (v : World) → Downward (layout_of areas) recoveries (top (layout_of areas)) w v →
    (last : List ℕ) → ((a : ℕ) → lowest (layout_of areas) a ≡ true → rounds ≤ times (layout_of areas) (round_ends a) last v) →
    (b : ℕ) → numbered (slot_count (layout_of areas)) b ≡ true → (P w.memory b → ⊥) → Free (turns_done (layout_of areas) last v).memory b

-- How soon, under turns alone, wherever one begins to count after any past:
-- a lowest area that has had so many turns, by its slots and the top level, has ended a round;
abbrev pub RoundsEndWithin : (ℕ → ℕ → ℕ) → Type 0
RoundsEndWithin bound =
    (areas : List Area) → is_plan areas ≡ true → (size : ℕ) (w : World) → Past (layout_of areas) size w →
    (a : ℕ) → lowest (layout_of areas) a ≡ true →
    (turns : List ℕ) → bound (area_size (layout_of areas) a) (top (layout_of areas)) ≤ turns_of a turns →
    1 ≤ times (layout_of areas) (round_ends a) turns w

-- an area that is marking has ended that marking within so many laps, by its slots and its level;
abbrev pub MarkingsEndWithin : (ℕ → ℕ → ℕ) → Type 0
MarkingsEndWithin bound =
    (areas : List Area) → is_plan areas ≡ true → (size : ℕ) (w : World) → Past (layout_of areas) size w →
    (x : ℕ) → numbered (length areas) x ≡ true → 2 ≤ (area_at areas x).level → marking w x ≡ true →
    (turns : List ℕ) → Laps (layout_of areas) (bound (area_size (layout_of areas) x) (area_at areas x).level) turns w →
    1 ≤ times (layout_of areas) (marking_ends x) turns w

-- and one that is recovering has ended that recovery within so many laps.
abbrev pub RecoveriesEndWithin : ℕ → Type 0
RecoveriesEndWithin laps =
    (areas : List Area) → is_plan areas ≡ true → (size : ℕ) (w : World) → Past (layout_of areas) size w →
    (x : ℕ) → numbered (length areas) x ≡ true → 2 ≤ (area_at areas x).level → marking w x ≡ false →
    (turns : List ℕ) → Laps (layout_of areas) laps turns w →
    1 ≤ times (layout_of areas) (recovery_ends x) turns w
