-- The invariant that every call keeps, over the roots of Roots.
use Rattle.std.specs.Prelude.{◌≡◌, ℕ, ◌<◌, ◌≤◌, true, false, ◌⊎◌, is_some, ◌≢◌}
use Rattle.chain.specs.Chain.{numbered}
use Rattle.state.specs.declared.collector.Stage.TheVariants.{Resting, Pass, Sweep}
use Rattle.state.specs.declared.collector.Status.TheVariants.{Unstarted, Begun}
use Rattle.state.specs.Layout.{Layout, top, slot_count, lowest, within, first_in, level_of}
use Rattle.state.specs.Memory.{Memory, World, block_at}
use Rattle.state.specs.Pasts.{Points}
use Rattle.laws.specs.Views.{Shape, white, black, entry, mark, mark_or_waits, stage, status, sends, marks_above}
use Rattle.laws.specs.Roots.{Root, Reach}
use Rattle.laws.specs.Invariant.{Told, HasCovered, SomeWaits, FreeChain}

-- Locally covered at level l in area a: what a round of the area that has ended its pass l has seen.
pub data LocallyCovered (plan : Layout) (s : Memory) (a l : ℕ) : ℕ → Type 0 where
  from_root : {b : ℕ} → within plan a b ≡ true → Root s b → LocallyCovered plan s a l b
  from_entry : {b : ℕ} (m : ℕ) → within plan a b ≡ true → l < m → m ≤ top plan → entry s b m ≡ true → LocallyCovered plan s a l b
  from_mark : {b : ℕ} (m : ℕ) → within plan a b ≡ true → 2 ≤ m → m ≤ l → mark s b m l ≡ true → LocallyCovered plan s a l b
  inward : {b c : ℕ} → LocallyCovered plan s a l b → Points s b c → within plan a c ≡ true → is_some (block_at s c) ≡ true → LocallyCovered plan s a l c

-- The tables of a memory stand: lengths, free chains, pointers that name slots, stages inside their bounds.
pub record Sound (plan : Layout) (s : Memory) : Type 0 where
  pub shape : Shape plan s
  pub chained : (a : ℕ) → lowest plan a ≡ true → FreeChain plan s a
  pub rooted_slots : (b : ℕ) → Root s b → numbered (slot_count plan) b ≡ true
  pub pointed_slots : (p b : ℕ) → Points s p b → numbered (slot_count plan) b ≡ true
  pub sweeps_inside : (a k : ℕ) → lowest plan a ≡ true → stage s a ≡ Sweep k → first_in plan a ≤ k
  pub passes_inside : (a L : ℕ) → lowest plan a ≡ true → stage s a ≡ Pass L → (1 ≤ L) × (L ≤ top plan)

-- What keeps reachable blocks from being swept.
pub record Safe (plan : Layout) (w : World) : Type 0 where
  -- a reachable block is there, and a crossing pointer out of one has its entry
  pub alive : (b : ℕ) → Reach w.memory b → is_some (block_at w.memory b) ≡ true
  pub entered : (p b : ℕ) → Reach w.memory p → Points w.memory p b → 2 ≤ level_of plan p b → entry w.memory b (level_of plan p b) ≡ true
  -- a waiting mark can be set: so a take drops none
  pub settable : (b m l : ℕ) → w.waits b m l ≡ true →
      (numbered (slot_count plan) b ≡ true) × (2 ≤ m) × (m ≤ l) × (l ≤ top plan) × (entry w.memory b m ≡ true) × (mark w.memory b m l ≡ false)
  -- a round starts with nothing scanned
  pub no_black_at_rest : (a b : ℕ) → lowest plan a ≡ true → stage w.memory a ≡ Resting → within plan a b ≡ true → black w.memory b ≡ false
  pub no_black_behind : (a b k : ℕ) → lowest plan a ≡ true → stage w.memory a ≡ Sweep k → within plan a b ≡ true → b < k →
      black w.memory b ≡ false
  -- in a pass: what is not white is seen; roots are, and what a black block points to in its area
  pub rooted : (a b L : ℕ) → lowest plan a ≡ true → stage w.memory a ≡ Pass L → within plan a b ≡ true → Root w.memory b →
      white w.memory b ≡ false
  pub inner : (a b c L : ℕ) → lowest plan a ≡ true → stage w.memory a ≡ Pass L → within plan a b ≡ true → within plan a c ≡ true →
      black w.memory b ≡ true → Points w.memory b c → white w.memory c ≡ false
  -- so are blocks that other areas may need: by an entry above the pass, or a mark of its level or above
  pub shaded_by_entry : (a b m L : ℕ) → lowest plan a ≡ true → stage w.memory a ≡ Pass L → within plan a b ≡ true → L < m → m ≤ top plan →
      entry w.memory b m ≡ true → white w.memory b ≡ false
  pub shaded_by_mark : (a b m j L : ℕ) → lowest plan a ≡ true → stage w.memory a ≡ Pass L → within plan a b ≡ true → 2 ≤ m → m ≤ j →
      j ≤ top plan → L ≤ j → mark w.memory b m j ≡ true → white w.memory b ≡ false
  -- from the place of a sweep on: what is reachable, or has an entry, was seen
  pub swept_reached : (a b k : ℕ) → lowest plan a ≡ true → stage w.memory a ≡ Sweep k → within plan a b ≡ true → k ≤ b → Reach w.memory b →
      white w.memory b ≡ false
  pub swept_entered : (a b k m : ℕ) → lowest plan a ≡ true → stage w.memory a ≡ Sweep k → within plan a b ≡ true → k ≤ b → 2 ≤ m →
      m ≤ top plan → entry w.memory b m ≡ true → white w.memory b ≡ false
  -- status 1 tells of a running round, which sends for the levels at which the area above is marking, and for no others
  pub begun_runs : (a l : ℕ) → lowest plan a ≡ true → 2 ≤ l → l ≤ top plan → status w.memory a l ≡ Begun → stage w.memory a ≢ Resting
  pub begun_sends : (a l : ℕ) → lowest plan a ≡ true → 2 ≤ l → l ≤ top plan → status w.memory a l ≡ Begun →
      marks_above plan w.memory a l ≡ true → sends w.memory a l ≡ true
  pub sends_marking : (a l : ℕ) → lowest plan a ≡ true → 2 ≤ l → l ≤ top plan → sends w.memory a l ≡ true → marks_above plan w.memory a l ≡ true
  -- in a pass: the pointers out of black blocks are told of
  pub scanned : (a l L : ℕ) → lowest plan a ≡ true → 2 ≤ l → l ≤ top plan → marks_above plan w.memory a l ≡ true →
      status w.memory a l ≡ Begun → stage w.memory a ≡ Pass L → l ≤ L →
      Told plan w l (λ b. (within plan a b ≡ true) × (black w.memory b ≡ true))
  -- after its pass l an area has told of all that it has covered, or is told to begin again
  pub covered : (a l : ℕ) → lowest plan a ≡ true → 2 ≤ l → l ≤ top plan → marks_above plan w.memory a l ≡ true → HasCovered w.memory a l →
      SomeWaits plan w a l ⊎ Told plan w l (LocallyCovered plan w.memory a l)
  -- while the area above recovers and this one has not begun: entries that a reachable pointer needs are marked, or their mark waits
  pub kept : (a p b l : ℕ) → lowest plan a ≡ true → 2 ≤ l → l ≤ top plan → marks_above plan w.memory a l ≡ false →
      status w.memory a l ≡ Unstarted → within plan a b ≡ true →
      Reach w.memory p → Points w.memory p b → level_of plan p b ≡ l → mark_or_waits w b l l ≡ true

pub record Inductive (plan : Layout) (w : World) : Type 0 where
  pub sound : Sound plan w.memory
  pub safe : Safe plan w
