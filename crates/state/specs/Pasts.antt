-- Pasts of a memory and its post, and what can happen in them.
use Rattle.std.specs.Prelude.{◌≡◌, ℕ, suc, ◌+◌, ◌<◌, Bool, true, false, cond, not, ◌&&◌, ◌||◌, List, [], ◌∷◌, ◌++◌, length, Some, None, Ok, count_by, nat_eq, nat_lt}
use Rattle.post.specs.Marks.{Waits, is_mark}
use Rattle.state.specs.declared.word.Word.TheVariants.{Pointer}
use Rattle.state.specs.declared.block.Block.{Block}
use Rattle.state.specs.declared.collector.Stage.{Stage}
use Rattle.state.specs.declared.collector.Stage.TheVariants.{Resting, Pass, Sweep}
use Rattle.state.specs.Registers.{is_register, held}
use Rattle.state.specs.Layout.{Layout, lowest}
use Rattle.state.specs.Blocks.{word_at}
use Rattle.state.specs.Memory.{Memory, World, block_at, collector_at, phase_at, is_marking}
use Rattle.state.specs.Calls.{Call, answered, made, turns}

-- Reachable

-- A register points to block b, or b has a hold.
pub data Root (s : Memory) : ℕ → Type 0 where
  from_register : {b : ℕ} (r : ℕ) → is_register r ≡ true → held s.registers r ≡ Pointer b → Root s b
  on_hold : {b : ℕ} (k : Block) → block_at s b ≡ Some k → 0 < k.holds → Root s b

-- A word of the block in slot p is a pointer to block b.
pub record Points (s : Memory) (p b : ℕ) : Type 0 where
  pub block : Block
  pub there : block_at s p ≡ Some block
  pub word : ℕ
  pub inside : word < block.size
  pub pointer : word_at block word ≡ Pointer b

-- Reachable are the blocks in registers, blocks with a hold, and all that pointer words lead to from these.
pub data Reach (s : Memory) : ℕ → Type 0 where
  root : {b : ℕ} → Root s b → Reach s b
  step : {p b : ℕ} → Reach s p → Points s p b → Reach s b

-- Slot b has a block, or is free.
abbrev pub Used : Memory → ℕ → Type 0
Used s b = (k : Block) × (block_at s b ≡ Some k)

abbrev pub Free : Memory → ℕ → Type 0
Free s b = block_at s b ≡ None

-- The call that leads from s to s' recovers block b.
abbrev pub Recovers : Memory → Memory → ℕ → Type 0
Recovers s s' b = Used s b × Free s' b

-- Pasts

-- Only marks of a post's size wait in it.
abbrev pub MarksOf : ℕ → Waits → Type 0
MarksOf size w = (b m l : ℕ) → w b m l ≡ true → is_mark size b m l ≡ true

-- The world came about by the making with a post of so many blocks, then any calls, refused ones too.
pub data Past (plan : Layout) (size : ℕ) : World → Type 0 where
  making : (w : Waits) → MarksOf size w → (v : World) → made plan size w ≡ Ok v → Past plan size v
  then : {w : World} → Past plan size w → (c : Call) → Past plan size (answered plan size c w).world

-- Turns alone

-- The world after turns of these areas, one after another, refused ones too.
abbrev pub turns_done : Layout → List ℕ → World → World
turns_done plan [] w = w
turns_done plan (a ∷ areas) w = turns_done plan areas (turns plan a w).world

abbrev pub is_resting : Stage → Bool
is_resting Resting = true
is_resting (Pass L) = false
is_resting (Sweep b) = false

abbrev pub resting : World → ℕ → Bool
resting w a = is_resting (collector_at w.memory a).stage

abbrev pub marking : World → ℕ → Bool
marking w x = is_marking (phase_at w.memory x)

-- What can happen to an area in the turn that leads from w to v.
abbrev pub round_begins : ℕ → World → World → Bool
round_begins a w v = resting w a && not (resting v a)

abbrev pub round_ends : ℕ → World → World → Bool
round_ends a w v = not (resting w a) && resting v a

abbrev pub marking_ends : ℕ → World → World → Bool
marking_ends x w v = marking w x && not (marking v x)

abbrev pub recovery_ends : ℕ → World → World → Bool
recovery_ends x w v = not (marking w x) && marking v x

-- How often it happens in turns of these areas from w on.
abbrev pub times : Layout → (World → World → Bool) → List ℕ → World → ℕ
times plan happens [] w = 0
times plan happens (a ∷ areas) w = cond (happens w (turns plan a w).world) 1 0 + times plan happens areas (turns plan a w).world

-- How many of the turns are of area a.
abbrev pub turns_of : ℕ → List ℕ → ℕ
turns_of a areas = count_by (λ x. nat_eq x a) areas

-- Laps

-- A round of area a begins in these turns and ends in them.
abbrev pub round_within : Layout → ℕ → List ℕ → World → Bool
round_within plan a [] w = false
round_within plan a (x ∷ areas) w =
    (round_begins a w (turns plan x w).world && nat_lt 0 (times plan (round_ends a) areas (turns plan x w).world))
    || round_within plan a areas (turns plan x w).world

-- Every lowest area begins a round in these turns and ends it.
abbrev pub AllRound : Layout → List ℕ → World → Type 0
AllRound plan areas w = (a : ℕ) → lowest plan a ≡ true → round_within plan a areas w ≡ true

-- A lap is the shortest stretch of turns in which every lowest area begins a round and ends it.
pub record Lap (plan : Layout) (areas : List ℕ) (w : World) : Type 0 where
  pub full : AllRound plan areas w
  pub shortest : (front rest : List ℕ) → areas ≡ front ++ rest → 0 < length rest → AllRound plan front w → ⊥

-- So many laps, one after another.
pub data Laps (plan : Layout) : ℕ → List ℕ → World → Type 0 where
  no_lap : {w : World} → Laps plan 0 [] w
  lap : {n : ℕ} {w : World} (areas : List ℕ) {others : List ℕ} → Lap plan areas w → Laps plan n others (turns_done plan areas w) → Laps plan (suc n) (areas ++ others) w
