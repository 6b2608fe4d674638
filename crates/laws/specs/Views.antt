-- What the invariant reads of a memory.
use Rattle.std.specs.Prelude.{◌≡◌, ℕ, ◌≤◌, Bool, true, false, ◌||◌, length, Some, None, Option}
use Rattle.state.specs.declared.block.Block.{Block}
use Rattle.state.specs.declared.block.Entry.{Entry}
use Rattle.state.specs.declared.block.Colour.{Colour}
use Rattle.state.specs.declared.block.Colour.TheVariants.{White, Grey, Black}
use Rattle.state.specs.declared.collector.Stage.{Stage}
use Rattle.state.specs.declared.collector.Status.{Status}
use Rattle.state.specs.Layout.{Layout, slot_count, above}
use Rattle.state.specs.Blocks.{is_white, has_entry, marked}
use Rattle.state.specs.Memory.{Memory, World, block_at, collector_at, phase_at, status_at, sends_at, is_marking}

abbrev pub is_black : Colour → Bool
is_black White = false
is_black Grey = false
is_black Black = true

-- of a slot: whether it has a block, and of which colour
abbrev pub white_in : Option Block → Bool
white_in None = false
white_in (Some k) = is_white k.colour

abbrev pub black_in : Option Block → Bool
black_in None = false
black_in (Some k) = is_black k.colour

abbrev pub entry_in : Option Block → ℕ → Bool
entry_in None m = false
entry_in (Some k) m = has_entry k m

abbrev pub mark_in : Option Block → ℕ → ℕ → Bool
mark_in None m l = false
mark_in (Some k) m l = marked k m l

abbrev pub white : Memory → ℕ → Bool
white s b = white_in (block_at s b)

abbrev pub black : Memory → ℕ → Bool
black s b = black_in (block_at s b)

abbrev pub entry : Memory → ℕ → ℕ → Bool
entry s b m = entry_in (block_at s b) m

abbrev pub mark : Memory → ℕ → ℕ → ℕ → Bool
mark s b m l = mark_in (block_at s b) m l

-- the mark is set, or waits
abbrev pub mark_or_waits : World → ℕ → ℕ → ℕ → Bool
mark_or_waits w b m l = mark w.memory b m l || w.waits b m l

abbrev pub stage : Memory → ℕ → Stage
stage s a = (collector_at s a).stage

abbrev pub status : Memory → ℕ → ℕ → Status
status s a l = status_at (collector_at s a) l

abbrev pub sends : Memory → ℕ → ℕ → Bool
sends s a l = sends_at (collector_at s a) l

-- the area over lowest area a at level l is marking
abbrev pub marks_above : Layout → Memory → ℕ → ℕ → Bool
marks_above plan s a l = is_marking (phase_at s (above plan a l))

-- Tables have the lengths that they are made with.
pub record BlockShape (k : Block) : Type 0 where
  pub words : length k.words ≡ 8
  pub size : k.size ≤ 8
  pub entries : length k.entries ≡ 3

pub record Shape (plan : Layout) (s : Memory) : Type 0 where
  pub slots : length s.slots ≡ slot_count plan
  pub registers : length s.registers ≡ 16
  pub collectors : length s.collectors ≡ length plan.areas
  pub phases : length s.phases ≡ length plan.areas
  pub blocks : (b : ℕ) (k : Block) → block_at s b ≡ Some k → BlockShape k
  pub marks : (b m : ℕ) (k : Block) (e : Entry) → block_at s b ≡ Some k → Rattle.state.specs.Blocks.entry_at k m ≡ Some e → length e.marks ≡ 3
  -- a collector has a status, and whether it sends, for each of the three levels
  pub statuses : (a : ℕ) → length (collector_at s a).levels ≡ 3
  pub sending : (a : ℕ) → length (collector_at s a).levels ≡ 3
