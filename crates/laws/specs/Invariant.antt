-- The invariant of a memory and the marks that wait for it, clause by clause.
use Rattle.std.specs.Prelude.{◌≡◌, ℕ, ◌<◌, ◌≤◌, true, false, ◌⊎◌, List, map, is_some, ◌≢◌}
use Rattle.chain.specs.Chain.{numbered, Chain, among}
use Rattle.state.specs.declared.collector.Stage.TheVariants.{Resting, Pass, Sweep}
use Rattle.state.specs.declared.collector.Status.TheVariants.{Unstarted, Begun, Ended}
use Rattle.state.specs.Layout.{Layout, top, slot_count, lowest, within, first_in, level_of}
use Rattle.state.specs.Memory.{Memory, World, block_at, collector_at}
use Rattle.state.specs.Pasts.{Root, Points, Reach}
use Rattle.laws.specs.Views.{Shape, white, black, entry, mark, mark_or_waits, stage, status, sends, marks_above}

-- Locally covered at level l in area a: what a round of the area that has ended its pass l has seen.
pub data Local (plan : Layout) (s : Memory) (a l : ℕ) : ℕ → Type 0 where
  from_root : {b : ℕ} → within plan a b ≡ true → Root s b → Local plan s a l b
  from_entry : {b : ℕ} (m : ℕ) → within plan a b ≡ true → l < m → m ≤ top plan → entry s b m ≡ true → Local plan s a l b
  from_mark : {b : ℕ} (m : ℕ) → within plan a b ≡ true → 2 ≤ m → m ≤ l → mark s b m l ≡ true → Local plan s a l b
  inward : {b c : ℕ} → Local plan s a l b → Points s b c → within plan a c ≡ true → is_some (block_at s c) ≡ true → Local plan s a l c

-- Every crossing pointer of level at most l out of a block that P holds of has its mark, set or waiting, where its entry is there.
abbrev pub Told : Layout → World → ℕ → (ℕ → Type 0) → Type 0
Told plan w l P =
    (b c : ℕ) → P b → Points w.memory b c → 2 ≤ level_of plan b c → level_of plan b c ≤ l → entry w.memory c (level_of plan b c) ≡ true →
    mark_or_waits w c (level_of plan b c) l ≡ true

-- The stages at which pass l of the running round is over.
pub data PassedBelow (s : Memory) (a l : ℕ) : Type 0 where
  lower_pass : (L : ℕ) → stage s a ≡ Pass L → L < l → PassedBelow s a l
  sweeping : (k : ℕ) → stage s a ≡ Sweep k → PassedBelow s a l

-- At level l the area has told of all that it has covered.
pub data HasCovered (s : Memory) (a l : ℕ) : Type 0 where
  has_ended_round : status s a l ≡ Ended → HasCovered s a l
  pass_over : status s a l ≡ Begun → PassedBelow s a l → HasCovered s a l

-- Some mark of level l waits for a block of the area.
abbrev pub SomeWaits : Layout → World → ℕ → ℕ → Type 0
SomeWaits plan w a l = (b : ℕ) × ((m : ℕ) × ((within plan a b ≡ true) × (w.waits b m l ≡ true)))

-- The free chain of an area lists just its free slots.
pub record FreeChain (plan : Layout) (s : Memory) (a : ℕ) : Type 0 where
  pub numbers : List ℕ
  pub chain : Chain (map (λ x. x.next) s.slots) (collector_at s a).free numbers
  pub free : (b : ℕ) → among b numbers ≡ true → (within plan a b ≡ true) × (is_some (block_at s b) ≡ false)
  pub all : (b : ℕ) → within plan a b ≡ true → is_some (block_at s b) ≡ false → among b numbers ≡ true

pub record Invariant (plan : Layout) (w : World) : Type 0 where
  pub shape : Shape plan w.memory
  pub chained : (a : ℕ) → lowest plan a ≡ true → FreeChain plan w.memory a
  pub rooted_slots : (b : ℕ) → Root w.memory b → numbered (slot_count plan) b ≡ true
  pub pointed_slots : (p b : ℕ) → Points w.memory p b → numbered (slot_count plan) b ≡ true
  pub alive : (b : ℕ) → Reach w.memory b → is_some (block_at w.memory b) ≡ true
  pub entered : (p b : ℕ) → Reach w.memory p → Points w.memory p b → 2 ≤ level_of plan p b → entry w.memory b (level_of plan p b) ≡ true
  pub settable : (b m l : ℕ) → w.waits b m l ≡ true → (numbered (slot_count plan) b ≡ true) × (2 ≤ m) × (m ≤ l) × (l ≤ top plan) × (entry w.memory b m ≡ true) × (mark w.memory b m l ≡ false)
  pub sweeps_inside : (a k : ℕ) → lowest plan a ≡ true → stage w.memory a ≡ Sweep k → first_in plan a ≤ k
  pub no_black_at_rest : (a b : ℕ) → lowest plan a ≡ true → stage w.memory a ≡ Resting → within plan a b ≡ true → black w.memory b ≡ false
  pub no_black_behind : (a b k : ℕ) → lowest plan a ≡ true → stage w.memory a ≡ Sweep k → within plan a b ≡ true → b < k → black w.memory b ≡ false
  pub rooted : (a b L : ℕ) → lowest plan a ≡ true → stage w.memory a ≡ Pass L → within plan a b ≡ true → Root w.memory b → white w.memory b ≡ false
  pub inner : (a b c L : ℕ) → lowest plan a ≡ true → stage w.memory a ≡ Pass L → within plan a b ≡ true → within plan a c ≡ true → black w.memory b ≡ true → Points w.memory b c → white w.memory c ≡ false
  pub shaded_by_entry : (a b m L : ℕ) → lowest plan a ≡ true → stage w.memory a ≡ Pass L → within plan a b ≡ true → L < m → m ≤ top plan → entry w.memory b m ≡ true → white w.memory b ≡ false
  pub shaded_by_mark : (a b m j L : ℕ) → lowest plan a ≡ true → stage w.memory a ≡ Pass L → within plan a b ≡ true → 2 ≤ m → m ≤ j → j ≤ top plan → L ≤ j → mark w.memory b m j ≡ true → white w.memory b ≡ false
  pub swept_reached : (a b k : ℕ) → lowest plan a ≡ true → stage w.memory a ≡ Sweep k → within plan a b ≡ true → k ≤ b → Reach w.memory b → white w.memory b ≡ false
  pub swept_entered : (a b k m : ℕ) → lowest plan a ≡ true → stage w.memory a ≡ Sweep k → within plan a b ≡ true → k ≤ b → 2 ≤ m → m ≤ top plan → entry w.memory b m ≡ true → white w.memory b ≡ false
  pub begun_runs : (a l : ℕ) → lowest plan a ≡ true → 2 ≤ l → l ≤ top plan → status w.memory a l ≡ Begun → stage w.memory a ≢ Resting
  pub begun_sends : (a l : ℕ) → lowest plan a ≡ true → 2 ≤ l → l ≤ top plan → status w.memory a l ≡ Begun → marks_above plan w.memory a l ≡ true → sends w.memory a l ≡ true
  pub sends_marking : (a l : ℕ) → lowest plan a ≡ true → 2 ≤ l → l ≤ top plan → sends w.memory a l ≡ true → marks_above plan w.memory a l ≡ true
  pub scanned : (a l L : ℕ) → lowest plan a ≡ true → 2 ≤ l → l ≤ top plan → marks_above plan w.memory a l ≡ true → status w.memory a l ≡ Begun → stage w.memory a ≡ Pass L → l ≤ L →
      Told plan w l (λ b. (within plan a b ≡ true) × (black w.memory b ≡ true))
  pub covered : (a l : ℕ) → lowest plan a ≡ true → 2 ≤ l → l ≤ top plan → marks_above plan w.memory a l ≡ true → HasCovered w.memory a l →
      SomeWaits plan w a l ⊎ Told plan w l (Local plan w.memory a l)
  pub kept : (a p b l : ℕ) → lowest plan a ≡ true → 2 ≤ l → l ≤ top plan → marks_above plan w.memory a l ≡ false → status w.memory a l ≡ Unstarted → within plan a b ≡ true →
      Reach w.memory p → Points w.memory p b → level_of plan p b ≡ l → mark_or_waits w b l l ≡ true
