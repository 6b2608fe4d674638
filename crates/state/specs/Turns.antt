-- What a turn of a lowest area's collector does, by its stage and by what it finds.
use Rattle.std.specs.Prelude.{ℕ, zero, suc, ◌+◌, ◌-◌, Bool, true, false, cond, not, ◌&&◌, ◌||◌, List, [], ◌∷◌, is_some, Some, None, Option, ◌==◌, nat_le, nat_lt, slice_set}
use Rattle.chain.specs.Chain.{place}
use Rattle.post.specs.Marks.{Waits}
use Rattle.state.specs.declared.block.Block.{Block}
use Rattle.state.specs.declared.block.Colour.TheVariants.{White, Black}
use Rattle.state.specs.declared.slot.Slot.{Slot}
use Rattle.state.specs.declared.collector.AtLevel.{AtLevel}
use Rattle.state.specs.declared.collector.Collector.{Collector}
use Rattle.state.specs.declared.collector.Stage.{Stage}
use Rattle.state.specs.declared.collector.Stage.TheVariants.{Resting, Pass, Sweep}
use Rattle.state.specs.declared.collector.Status.{Status}
use Rattle.state.specs.declared.collector.Status.TheVariants.{Unstarted, Begun, Ended}
use Rattle.state.specs.declared.collector.Phase.{Phase}
use Rattle.state.specs.declared.collector.Phase.TheVariants.{Marking, Recovering}
use Rattle.state.specs.Tables.{map_from, some_from, every_from}
use Rattle.state.specs.Layout.{Layout, top, lowest, within, first_in, last_of, above, level_of}
use Rattle.state.specs.Blocks.{level_place, points_to, coloured, shade, is_white, is_grey, has_entry, marked, mark_in, with_marks, with_recovered, entered_at}
use Rattle.state.specs.Memory.{Memory, World, free_slot, unstarted_level, block_at, collector_at, phase_at, status_at, sends_at, is_marking, in_register, with_slots, with_collectors, with_collector, with_phase, on_block, on_area, at_stage}

-- The area over lowest area a at level l is marking; just the levels from 2 to the top have areas above.
abbrev pub marking_above : Layout → Memory → ℕ → ℕ → Bool
marking_above plan s a l = nat_le l (top plan) && is_marking (phase_at s (above plan a l))

abbrev pub recovering_above : Layout → Memory → ℕ → ℕ → Bool
recovering_above plan s a l = nat_le l (top plan) && not (is_marking (phase_at s (above plan a l)))

abbrev pub is_unstarted : Status → Bool
is_unstarted Unstarted = true
is_unstarted Begun = false
is_unstarted Ended = false

abbrev pub is_ended : Status → Bool
is_ended Unstarted = false
is_ended Begun = false
is_ended Ended = true

-- f done to the status of each level.
abbrev pub on_status : (ℕ → Status → Status) → Collector → Collector
on_status f c = record c { levels = map_from (λ l (x : AtLevel). record x { status = f l x.status }) 2 c.levels }

abbrev pub with_sends : (ℕ → Bool) → Collector → Collector
with_sends f c = record c { levels = map_from (λ l (x : AtLevel). record x { sends = f l }) 2 c.levels }

-- The start of a round: the drain

-- The marks of the area that can be set: those that wait in its slots, up to the top level.
abbrev pub settable : Layout → ℕ → Waits → Waits
settable plan a w b m l = within plan a b && (nat_le l (top plan) && w b m l)

abbrev pub new_in : Waits → ℕ → ℕ → Option Block → Bool
new_in w l b None = false
new_in w l b (Some k) = some_from (λ m e. is_some e && (w b m l && not (mark_in e l))) 2 k.entries

-- Some mark of level l is taken that was clear.
abbrev pub newly_marked : Waits → ℕ → List Slot → Bool
newly_marked w l slots = some_from (λ b s. new_in w l b s.block) 1 slots

abbrev pub restarted : Bool → Status → Status
restarted true x = Unstarted
restarted false x = x

-- The area takes all marks that wait in its slots. A mark is set if its level is at most the top, and its block and entry are there;
-- else it is dropped. Where one was set anew and the area above at its level is marking, the status there is 0 again.
abbrev pub drained : Layout → ℕ → World → World
drained plan a w = record {
  memory =
      with_collector a (on_status (λ l x. restarted (newly_marked (settable plan a w.waits) l w.memory.slots && marking_above plan w.memory a l) x) (collector_at w.memory a))
      (on_area plan a (λ b k. with_marks (λ m l. settable plan a w.waits b m l) k) w.memory);
  waits = λ b m l. w.waits b m l && not (within plan a b);
}

-- The start of a round: entries that a recovery takes away

-- The levels at which the area has not begun a round since the area above there began to recover.
abbrev pub recovers_at : Layout → Memory → ℕ → ℕ → Bool
recovers_at plan s a l = recovering_above plan s a l && is_unstarted (status_at (collector_at s a) l)

abbrev pub begun : Bool → Status → Status
begun true Unstarted = Begun
begun true Begun = Begun
begun true Ended = Ended
begun false x = x

-- Entries are lost and marks cleared; status 0 becomes 1; the round sends for just the levels at which the area above is marking.
abbrev pub entries_recovered : Layout → ℕ → Memory → Memory
entries_recovered plan a s =
    with_collector a (with_sends (marking_above plan s a) (on_status (λ l x. begun (nat_le l (top plan)) x) (collector_at s a)))
    (on_area plan a (λ b k. with_recovered (recovers_at plan s a) k) s)

-- The area's blocks in registers or with a hold are shaded.
abbrev pub roots_shaded : Layout → ℕ → Memory → Memory
roots_shaded plan a s = on_area plan a (λ b k. cond (in_register s b || nat_lt 0 k.holds) (shade k) k) s

-- Pass L begins: the area's blocks with an entry above L or with mark L are shaded.
abbrev pub pass_begun : Layout → ℕ → ℕ → Memory → Memory
pass_begun plan a L s =
    with_collector a (at_stage (Pass L) (collector_at s a)) (on_area plan a (λ b k. cond (entered_at L k) (shade k) k) s)

abbrev pub on_memory : (Memory → Memory) → World → World
on_memory f w = record { memory = f w.memory; waits = w.waits }

abbrev pub round_started : Layout → ℕ → World → World
round_started plan a w =
    on_memory (λ s. pass_begun plan a (top plan) (roots_shaded plan a (entries_recovered plan a s))) (drained plan a w)

-- A pass

abbrev pub grey_block : Option Block → Bool
grey_block None = false
grey_block (Some k) = is_grey k.colour

-- The first slot with a grey block, of those that area a has; the first slot has number b.
abbrev pub lowest_grey : Layout → ℕ → ℕ → List Slot → Option ℕ
lowest_grey plan a b [] = None
lowest_grey plan a b (s ∷ ss) = cond (within plan a b && grey_block s.block) (Some b) (lowest_grey plan a (b + 1) ss)

abbrev pub clear_in : Option Block → ℕ → ℕ → Bool
clear_in None m l = false
clear_in (Some k) m l = has_entry k m && not (marked k m l)

-- The block in slot b has an entry of level m whose mark l is clear.
abbrev pub clear_at : Memory → ℕ → ℕ → ℕ → Bool
clear_at s b m l = clear_in (block_at s b) m l

-- The marks that a scan of block k in slot b sends in pass L.
abbrev pub scan_sends : Layout → Memory → ℕ → ℕ → ℕ → Block → Waits
scan_sends plan s a L b k c m l =
    points_to k c && (m == level_of plan b c && (nat_le 2 m && (nat_le m l && (nat_le l L && (sends_at (collector_at s a) l && clear_at s c m l)))))

-- Block k in slot b is scanned in pass L: what it points to in the area is shaded, marks are sent for what it points to elsewhere, and it becomes black.
abbrev pub scanned : Layout → ℕ → ℕ → ℕ → Block → World → World
scanned plan a L b k w = record {
  memory = on_block b (coloured Black) (on_area plan a (λ c x. cond (points_to k c) (shade x) x) w.memory);
  waits = λ c m l. w.waits c m l || scan_sends plan w.memory a L b k c m l;
}

abbrev pub scanned_at : Layout → ℕ → ℕ → ℕ → Option Block → World → World
scanned_at plan a L b None w = w
scanned_at plan a L b (Some k) w = scanned plan a L b k w

-- With no grey block left, the next pass or the sweep begins.
abbrev pub pass_ended : Layout → ℕ → ℕ → Memory → Memory
pass_ended plan a L s = cond (nat_lt 1 L) (pass_begun plan a (L - 1) s) (with_collector a (at_stage (Sweep (first_in plan a)) (collector_at s a)) s)

abbrev pub pass_turn : Layout → ℕ → ℕ → Option ℕ → World → World
pass_turn plan a L (Some b) w = scanned_at plan a L b (block_at w.memory b) w
pass_turn plan a L None w = on_memory (pass_ended plan a L) w

-- The sweep

abbrev pub with_free : ℕ → Collector → Collector
with_free b c = record c { free = b }

-- A white block is recovered: its slot is put first in the area's free chain.
abbrev pub block_recovered : ℕ → ℕ → Memory → Memory
block_recovered a b s =
    with_collector a (with_free b (collector_at s a)) (with_slots (slice_set s.slots (place b) (free_slot (collector_at s a).free)) s)

abbrev pub slot_swept : ℕ → ℕ → Option Block → Memory → Memory
slot_swept a b None s = s
slot_swept a b (Some k) s = cond (is_white k.colour) (block_recovered a b s) (on_block b (coloured White) s)

abbrev pub swept_on : ℕ → ℕ → Memory → Memory
swept_on a b s = with_collector a (at_stage (Sweep (b + 1)) (collector_at s a)) s

-- The end of a round, and the phases

abbrev pub ended : Status → Status
ended Unstarted = Unstarted
ended Begun = Ended
ended Ended = Ended

abbrev pub round_over : ℕ → Memory → Memory
round_over a s = with_collector a (at_stage Resting (with_sends (λ _. false) (on_status (λ _ x. ended x) (collector_at s a)))) s

-- Lowest area a lies in area x of level l.
abbrev pub under : Layout → ℕ → ℕ → ℕ → Bool
under plan x l a = lowest plan a && above plan a l == x

-- Every lowest area in x has ended a round.
abbrev pub all_ended : Layout → ℕ → ℕ → Memory → Bool
all_ended plan x l s = every_from (λ a c. not (under plan x l a) || is_ended (status_at c l)) 1 s.collectors

abbrev pub waits_at : Waits → ℕ → ℕ → Bool
waits_at w l b = w b 2 l || (w b 3 l || w b 4 l)

-- Some mark of level l waits in area x.
abbrev pub some_waits : Layout → ℕ → ℕ → World → Bool
some_waits plan x l w = some_from (λ b _. within plan x b && waits_at w.waits l b) 1 w.memory.slots

abbrev pub reset_at : ℕ → Collector → Collector
reset_at l c = record c { levels = slice_set c.levels (level_place l) unstarted_level }

-- The phase changes: the statuses there become 0, and running rounds stop sending for that level.
abbrev pub phase_changed : Layout → ℕ → ℕ → Phase → Memory → Memory
phase_changed plan x l p s = with_phase x p (with_collectors (map_from (λ a c. cond (under plan x l a) (reset_at l c) c) 1 s.collectors) s)

abbrev pub phase_test : Layout → ℕ → ℕ → Phase → World → World
phase_test plan x l Marking w = cond (all_ended plan x l w.memory && not (some_waits plan x l w)) (on_memory (phase_changed plan x l Recovering) w) w
phase_test plan x l Recovering w = cond (all_ended plan x l w.memory) (on_memory (phase_changed plan x l Marking) w) w

-- The areas over a are tested, from level l upward, n of them.
abbrev pub phase_tests : Layout → ℕ → ℕ → ℕ → World → World
phase_tests plan a zero l w = w
phase_tests plan a (suc n) l w = phase_tests plan a n (l + 1) (phase_test plan (above plan a l) l (phase_at w.memory (above plan a l)) w)

abbrev pub round_ended : Layout → ℕ → World → World
round_ended plan a w = phase_tests plan a (top plan - 1) 2 (on_memory (round_over a) w)

abbrev pub sweep_turn : Layout → ℕ → ℕ → World → World
sweep_turn plan a b w =
    cond (nat_le b (last_of plan a)) (on_memory (λ s. swept_on a b (slot_swept a b (block_at s b) s)) w) (round_ended plan a w)

-- A turn

abbrev pub turn_at : Layout → ℕ → Stage → World → World
turn_at plan a Resting w = round_started plan a w
turn_at plan a (Pass L) w = pass_turn plan a L (lowest_grey plan a 1 w.memory.slots) w
turn_at plan a (Sweep b) w = sweep_turn plan a b w

abbrev pub turned : Layout → ℕ → World → World
turned plan a w = turn_at plan a (collector_at w.memory a).stage w
