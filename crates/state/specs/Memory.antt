-- The memory: slots, registers, the lowest areas' collectors and the phases of the areas above.
use Rattle.std.specs.Prelude.{ℕ, Bool, true, false, cond, List, get_or, replicate, Some, None, Option, ◌==◌, slice_index_or, slice_set}
use Rattle.chain.specs.Chain.{place}
use Rattle.post.specs.Marks.{Waits}
use Rattle.state.specs.declared.word.Word.{Word}
use Rattle.state.specs.declared.block.Block.{Block}
use Rattle.state.specs.declared.slot.Slot.{Slot}
use Rattle.state.specs.declared.collector.AtLevel.{AtLevel}
use Rattle.state.specs.declared.collector.Collector.{Collector}
use Rattle.state.specs.declared.collector.Stage.{Stage}
use Rattle.state.specs.declared.collector.Stage.TheVariants.{Resting}
use Rattle.state.specs.declared.collector.Status.{Status}
use Rattle.state.specs.declared.collector.Status.TheVariants.{Unstarted}
use Rattle.state.specs.declared.collector.Phase.{Phase}
use Rattle.state.specs.declared.collector.Phase.TheVariants.{Marking, Recovering}
use Rattle.state.specs.Tables.{map_from, some_from}
use Rattle.state.specs.Layout.{Layout, within}
use Rattle.state.specs.Blocks.{level_place, is_pointer_to}

-- Slots by number; registers; collectors and phases by area number. Of a lowest area just the collector is used, of another just the phase.
pub record Memory : Type 0 where
  pub slots : List Slot
  pub registers : List Word
  pub collectors : List Collector
  pub phases : List Phase

-- A memory with the set of marks that wait in its post.
pub record World : Type 0 where
  pub memory : Memory
  pub waits : Waits

-- A free slot, with the next of its chain.
abbrev pub free_slot : ℕ → Slot
free_slot n = record { block = None; next = n }

-- Status 0 at a level, and nothing is sent for it.
abbrev pub unstarted_level : AtLevel
unstarted_level = record { status = Unstarted; sends = false }

-- A collector at rest, with status 0 at each level and the first free slot of its area.
abbrev pub new_collector : ℕ → Collector
new_collector b = record { stage = Resting; levels = replicate 3 unstarted_level; free = b }

-- Reading

abbrev pub block_in : List Slot → ℕ → Option Block
block_in slots b = (get_or slots (place b) (free_slot 0)).block

abbrev pub block_at : Memory → ℕ → Option Block
block_at s b = block_in s.slots b

abbrev pub link_at : Memory → ℕ → ℕ
link_at s b = (get_or s.slots (place b) (free_slot 0)).next

abbrev pub collector_at : Memory → ℕ → Collector
collector_at s a = slice_index_or s.collectors (place a) (new_collector 0)

abbrev pub phase_at : Memory → ℕ → Phase
phase_at s a = slice_index_or s.phases (place a) Marking

abbrev pub status_at : Collector → ℕ → Status
status_at c l = (slice_index_or c.levels (level_place l) unstarted_level).status

abbrev pub sends_at : Collector → ℕ → Bool
sends_at c l = (slice_index_or c.levels (level_place l) unstarted_level).sends

abbrev pub is_marking : Phase → Bool
is_marking Marking = true
is_marking Recovering = false

-- A register points to block b.
abbrev pub in_register : Memory → ℕ → Bool
in_register s b = some_from (λ r w. is_pointer_to b w) 0 s.registers

-- Writing

abbrev pub with_slots : List Slot → Memory → Memory
with_slots xs s = record { slots = xs; registers = s.registers; collectors = s.collectors; phases = s.phases }

abbrev pub with_registers : List Word → Memory → Memory
with_registers rs s = record { slots = s.slots; registers = rs; collectors = s.collectors; phases = s.phases }

abbrev pub with_register : ℕ → Word → Memory → Memory
with_register p v s = with_registers (slice_set s.registers p v) s

abbrev pub with_collectors : List Collector → Memory → Memory
with_collectors cs s = record { slots = s.slots; registers = s.registers; collectors = cs; phases = s.phases }

abbrev pub with_collector : ℕ → Collector → Memory → Memory
with_collector a c s = with_collectors (slice_set s.collectors (place a) c) s

abbrev pub with_phase : ℕ → Phase → Memory → Memory
with_phase x p s = record { slots = s.slots; registers = s.registers; collectors = s.collectors; phases = slice_set s.phases (place x) p }

abbrev pub changed_block : (Block → Block) → Option Block → Option Block
changed_block f None = None
changed_block f (Some k) = Some (f k)

-- f done to the block of each slot that has one.
abbrev pub each_block : (ℕ → Block → Block) → List Slot → List Slot
each_block f slots = map_from (λ b s. record { block = changed_block (f b) s.block; next = s.next }) 1 slots

-- f done to the block in slot b.
abbrev pub on_block : ℕ → (Block → Block) → Memory → Memory
on_block b f s = with_slots (each_block (λ c k. cond (c == b) (f k) k) s.slots) s

-- f done to each block of area a.
abbrev pub on_area : Layout → ℕ → (ℕ → Block → Block) → Memory → Memory
on_area plan a f s = with_slots (each_block (λ b k. cond (within plan a b) (f b k) k) s.slots) s

abbrev pub at_stage : Stage → Collector → Collector
at_stage t c = record c { stage = t }
