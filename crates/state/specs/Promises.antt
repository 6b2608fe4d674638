-- What the rules promise: for every accepted plan, every past and every post.
use Rattle.std.specs.Prelude.{◌≡◌, ℕ, suc, ◌+◌, ◌-◌, ◌*◌, ◌≤◌, true, false, List, length}
use Rattle.chain.specs.Chain.{numbered}
use Rattle.plan.specs.declared.area.Area.{Area}
use Rattle.plan.specs.Plans.{is_plan}
use Rattle.plan.specs.Walk.{area_at}
use Rattle.state.specs.Layout.{Layout, layout_of, top, slot_count, lowest, area_size}
use Rattle.state.specs.Memory.{World}
use Rattle.state.specs.Calls.{Call, answered}
use Rattle.state.specs.Pasts.{Past, Reach, Recovers, Free, turns_done, marking, round_ends, marking_ends, recovery_ends, times, turns_of, Laps}

-- No call of any past recovers a block that was reachable when the call came.
abbrev pub NoReachableBlockIsRecovered : Type 0
NoReachableBlockIsRecovered =
    (areas : List Area) → is_plan areas ≡ true → (size : ℕ) (w : World) → Past (layout_of areas) size w →
    (c : Call) (b : ℕ) → Reach w.memory b → Recovers w.memory (answered (layout_of areas) size c w).world.memory b → ⊥

-- Every area of a level ends three recoveries in these turns.
abbrev pub ThreeRecoveries : Layout → ℕ → List ℕ → World → Type 0
ThreeRecoveries plan l part w =
    (x : ℕ) → numbered (length plan.areas) x ≡ true → (area_at plan.areas x).level ≡ l → 3 ≤ times plan (recovery_ends x) part w

-- Turns alone that lead from w to v, level by level downward from level l to level 2, each level in a part of its own.
pub data Downward (plan : Layout) : ℕ → World → World → Type 0 where
  down_to_one : {w : World} → Downward plan 1 w w
  level_part : {l : ℕ} {w v : World} (part : List ℕ) → ThreeRecoveries plan (suc l) part w → Downward plan l (turns_done plan part w) v → Downward plan (suc l) w v

-- After any past let turns alone follow: in a first part the top area ends three recoveries; then, level by level downward, every area of
-- the level ends three; then every lowest area ends two rounds. Then every block that was unreachable when the turns began is free.
abbrev pub TurnsAloneRecoverAllGarbage : Type 0
TurnsAloneRecoverAllGarbage =
    (areas : List Area) → is_plan areas ≡ true → (size : ℕ) (w : World) → Past (layout_of areas) size w →
    (v : World) → Downward (layout_of areas) (top (layout_of areas)) w v →
    (last : List ℕ) → ((a : ℕ) → lowest (layout_of areas) a ≡ true → 2 ≤ times (layout_of areas) (round_ends a) last v) →
    (b : ℕ) → numbered (slot_count (layout_of areas)) b ≡ true → (Reach w.memory b → ⊥) → Free (turns_done (layout_of areas) last v).memory b

-- How soon, under turns alone, wherever one begins to count after any past:
-- an area of n slots that has had 2n + H + 2 accepted turns has ended a round;
abbrev pub RoundsEndSoon : Type 0
RoundsEndSoon =
    (areas : List Area) → is_plan areas ≡ true → (size : ℕ) (w : World) → Past (layout_of areas) size w →
    (a : ℕ) → lowest (layout_of areas) a ≡ true →
    (turns : List ℕ) → 2 * area_size (layout_of areas) a + top (layout_of areas) + 2 ≤ turns_of a turns →
    1 ≤ times (layout_of areas) (round_ends a) turns w

-- an area at level L over n slots that is marking has ended that marking within 2n(L−1) + 2 laps;
abbrev pub MarkingsEndSoon : Type 0
MarkingsEndSoon =
    (areas : List Area) → is_plan areas ≡ true → (size : ℕ) (w : World) → Past (layout_of areas) size w →
    (x : ℕ) → numbered (length areas) x ≡ true → 2 ≤ (area_at areas x).level → marking w x ≡ true →
    (turns : List ℕ) → Laps (layout_of areas) (2 * area_size (layout_of areas) x * ((area_at areas x).level - 1) + 2) turns w →
    1 ≤ times (layout_of areas) (marking_ends x) turns w

-- and one that is recovering has ended that recovery within one lap.
abbrev pub RecoveriesEndSoon : Type 0
RecoveriesEndSoon =
    (areas : List Area) → is_plan areas ≡ true → (size : ℕ) (w : World) → Past (layout_of areas) size w →
    (x : ℕ) → numbered (length areas) x ≡ true → 2 ≤ (area_at areas x).level → marking w x ≡ false →
    (turns : List ℕ) → Laps (layout_of areas) 1 turns w →
    1 ≤ times (layout_of areas) (recovery_ends x) turns w
