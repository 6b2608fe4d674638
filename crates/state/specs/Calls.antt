-- What each message, hold and return does and answers, and the making. A refusal answers the world that it was given.
use Rattle.std.specs.Prelude.{ℕ, ◌+◌, Bool, cond, not, ◌&&◌, ◌||◌, List, Some, None, Ok, Err, Option, Result, ◌==◌, nat_le, nat_lt, slice_set}
use Rattle.std.specs.List.{range_with_len}
use Rattle.chain.specs.Chain.{place}
use Rattle.post.specs.Marks.{Waits}
use Rattle.state.specs.declared.word.Word.{Word}
use Rattle.state.specs.declared.word.Word.TheVariants.{Number, Pointer}
use Rattle.state.specs.declared.block.Block.{Block}
use Rattle.state.specs.declared.collector.Phase.TheVariants.{Marking}
use Rattle.state.specs.declared.message.Message.{Message}
use Rattle.state.specs.declared.message.Message.TheVariants as messages
use Rattle.state.specs.declared.refusal.Refusal.{Refusal}
use Rattle.state.specs.declared.refusal.Refusal.TheVariants.{PostUnfit, NoRegister, NotLowest, TooLarge, NoPointer, NoWord, NoSlot, TooManyHolds, NoHold}
use Rattle.state.specs.Tables.{map_from, some_from}
use Rattle.state.specs.Registers.{is_register, zero_registers, held}
use Rattle.state.specs.Holds.{held_block, unheld_block}
use Rattle.state.specs.Layout.{Layout, top, slot_count, lowest, first_in, last_of, level_of}
use Rattle.state.specs.Blocks.{new_block, word_at, with_word, shade, with_entry}
use Rattle.state.specs.Memory.{Memory, World, free_slot, new_collector, block_at, link_at, collector_at, with_slots, with_register, with_collector, on_block}
use Rattle.state.specs.Messages.{decoded}
use Rattle.state.specs.Turns.{on_memory, with_free, clear_at, turned}

-- The world after a call, and its answer: a number (0, or the block that is held) or a refusal.
pub record Outcome : Type 0 where
  pub world : World
  pub answer : Result ℕ Refusal

abbrev pub accepted : World → Outcome
accepted w = record { world = w; answer = Ok 0 }

abbrev pub refused : Refusal → World → Outcome
refused e w = record { world = w; answer = Err e }

-- Where a test fails the call is refused.
abbrev pub check : Bool → Refusal → World → Outcome → Outcome
check ok e w next = cond ok next (refused e w)

-- Making a block

-- The first free slot of area q gets a new block of n words, and register p points to it.
abbrev pub block_made : ℕ → ℕ → ℕ → Memory → Memory
block_made p q n s =
    let b = (collector_at s q).free in
    with_collector q (with_free (link_at s b) (collector_at s q))
    (with_register p (Pointer b)
    (with_slots (slice_set s.slots (place b) (record { block = Some (new_block n); next = link_at s b })) s))

abbrev pub makes : Layout → ℕ → ℕ → ℕ → World → Outcome
makes plan p q n w =
    check (is_register p) NoRegister w
    (check (lowest plan q) NotLowest w
    (check (nat_le n 8) TooLarge w
    (check (nat_lt 0 (collector_at w.memory q).free) NoSlot w
    (accepted (on_memory (block_made p q n) w)))))

-- Writing and reading a word

-- For a pointer of level m to block b: all its marks, from m to the top, that are clear in the entry of level m are sent.
abbrev pub marks_sent : Layout → ℕ → ℕ → World → World
marks_sent plan b m w = record {
  memory = w.memory;
  waits = λ c n l. w.waits c n l || (c == b && (n == m && (nat_le m l && (nat_le l (top plan) && clear_at w.memory b m l))));
}

-- A pointer to c was written into block b: where it crosses areas its entry is there or is made, and its marks are sent.
abbrev pub pointer_written : Layout → ℕ → ℕ → World → World
pointer_written plan b c w =
    cond (nat_le 2 (level_of plan b c)) (marks_sent plan c (level_of plan b c) (on_memory (on_block c (with_entry (level_of plan b c))) w)) w

abbrev pub word_written : Layout → ℕ → ℕ → Word → World → World
word_written plan b i (Number n) w = on_memory (on_block b (with_word i (Number n))) w
word_written plan b i (Pointer c) w = pointer_written plan b c (on_memory (on_block b (with_word i (Pointer c))) w)

-- A pointer to c was read out of block b: c is shaded, and where the pointer crosses areas and its entry is there its marks are sent.
abbrev pub pointer_read : Layout → ℕ → ℕ → World → World
pointer_read plan b c w =
    let v = on_memory (on_block c shade) w in
    cond (nat_le 2 (level_of plan b c)) (marks_sent plan c (level_of plan b c) v) v

abbrev pub word_read : Layout → ℕ → ℕ → Word → World → World
word_read plan b p (Number n) w = on_memory (with_register p (Number n)) w
word_read plan b p (Pointer c) w = pointer_read plan b c (on_memory (with_register p (Pointer c)) w)

abbrev pub size_of : Option Block → ℕ
size_of None = 0
size_of (Some k) = k.size

abbrev pub word_of : Option Block → ℕ → Word
word_of None i = Number 0
word_of (Some k) i = word_at k i

-- Word i of the block that a register points to becomes a word.
abbrev pub writes_to : Layout → Word → ℕ → Word → World → Outcome
writes_to plan (Number n) i v w = refused NoPointer w
writes_to plan (Pointer b) i v w = check (nat_lt i (size_of (block_at w.memory b))) NoWord w (accepted (word_written plan b i v w))

abbrev pub writes : Layout → ℕ → ℕ → ℕ → World → Outcome
writes plan p i n w =
    check (is_register p && is_register n) NoRegister w (writes_to plan (held w.memory.registers p) i (held w.memory.registers n) w)

-- Register p becomes word i of the block that a register points to.
abbrev pub reads_from : Layout → ℕ → Word → ℕ → World → Outcome
reads_from plan p (Number n) i w = refused NoPointer w
reads_from plan p (Pointer b) i w =
    check (nat_lt i (size_of (block_at w.memory b))) NoWord w (accepted (word_read plan b p (word_of (block_at w.memory b) i) w))

abbrev pub reads : Layout → ℕ → ℕ → ℕ → World → Outcome
reads plan p q i w = check (is_register p && is_register q) NoRegister w (reads_from plan p (held w.memory.registers q) i w)

-- Numbers, copies and turns

abbrev pub numbers : ℕ → ℕ → World → Outcome
numbers p n w = check (is_register p) NoRegister w (accepted (on_memory (with_register p (Number n)) w))

abbrev pub copies : ℕ → ℕ → World → Outcome
copies p q w =
    check (is_register p && is_register q) NoRegister w (accepted (on_memory (λ s. with_register p (held s.registers q) s) w))

abbrev pub turns : Layout → ℕ → World → Outcome
turns plan a w = check (lowest plan a) NotLowest w (accepted (turned plan a w))

-- Messages

abbrev pub message_done : Layout → Message → World → Outcome
message_done plan (messages.Make p q n) w = makes plan p q n w
message_done plan (messages.Write p q n) w = writes plan p q n w
message_done plan (messages.Number p n) w = numbers p n w
message_done plan (messages.Read p q n) w = reads plan p q n w
message_done plan (messages.Copy p q) w = copies p q w
message_done plan (messages.Turn q) w = turns plan q w

abbrev pub message_answered : Layout → Result Message Refusal → World → Outcome
message_answered plan (Ok m) w = message_done plan m w
message_answered plan (Err e) w = refused e w

-- Holds

abbrev pub holds_at : Option Block → ℕ
holds_at None = 0
holds_at (Some k) = k.holds

abbrev pub holds_in : ℕ → Option Block → World → Outcome
holds_in b None w = refused NoPointer w
holds_in b (Some k) w = check (nat_lt k.holds 255) TooManyHolds w (record { world = on_memory (on_block b held_block) w; answer = Ok b })

abbrev pub holds_block : Word → World → Outcome
holds_block (Number n) w = refused NoPointer w
holds_block (Pointer b) w = holds_in b (block_at w.memory b) w

-- One hold more on the block in register r; the answer is the block.
abbrev pub holds : ℕ → World → Outcome
holds r w = check (is_register r) NoRegister w (holds_block (held w.memory.registers r) w)

-- A hold on block b is given back.
abbrev pub gives_back : ℕ → World → Outcome
gives_back b w = check (nat_lt 0 b && nat_lt 0 (holds_at (block_at w.memory b))) NoHold w (accepted (on_memory (on_block b unheld_block) w))

-- All calls

-- A call of the memory: a message of eight bytes, a hold on the block in a register, a hold on a block given back.
pub data Call : Type 0 where
  message : List ℕ → Call
  hold : ℕ → Call
  return : ℕ → Call

-- What a call does where the post has so many blocks. A message is given the post, and is refused where the plan has more slots; holds and
-- returns are given none.
abbrev pub answered : Layout → ℕ → Call → World → Outcome
answered plan size (message bytes) w = check (nat_le (slot_count plan) size) PostUnfit w (message_answered plan (decoded bytes) w)
answered plan size (hold r) w = holds r w
answered plan size (return b) w = gives_back b w

-- The making

-- All slots are free, chained in rising order in each area; the registers hold the number 0; every lowest area rests with status 0 at
-- each level, and every area above is marking.
abbrev pub fresh : Layout → Memory
fresh plan = record {
  slots = map_from (λ b a. free_slot (cond (nat_lt b (last_of plan a)) (b + 1) 0)) 1 plan.homes;
  registers = zero_registers;
  collectors = map_from (λ a _. new_collector (cond (lowest plan a) (first_in plan a) 0)) 1 plan.areas;
  phases = map_from (λ _ _. Marking) 1 plan.areas;
}

-- Some mark waits in a post of so many blocks.
abbrev pub any_waits : ℕ → Waits → Bool
any_waits size w = some_from (λ b _. (w b 2 2 || (w b 2 3 || w b 2 4)) || (w b 3 3 || (w b 3 4 || w b 4 4))) 1 (range_with_len 1 size)

-- The making is refused where the post is smaller than the plan, or a mark waits in it.
abbrev pub made : Layout → ℕ → Waits → Result World Refusal
made plan size w = cond (nat_le (slot_count plan) size && not (any_waits size w)) (Ok (record { memory = fresh plan; waits = w })) (Err PostUnfit)
