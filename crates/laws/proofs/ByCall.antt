-- What a call can do, kind by kind: what holds of the world as it was and of each change holds of the world after the call.
use Rattle.std.proofs.Common.{◌≡◌, ℕ, Bool, true, ◌&&◌, ltb, leb, Some, None, Ok, Err, Option, Result, sym, refl, ◌∙◌, arith}
use Rattle.std.proofs.lemmas.Bool.{cond_both, and_parts, ltb-true}
use Rattle.state.specs.declared.word.Word.{Word}
use Rattle.state.specs.declared.word.Word.TheVariants.{Number, Pointer}
use Rattle.state.specs.declared.block.Block.{Block}
use Rattle.state.specs.declared.message.Message.{Message}
use Rattle.state.specs.declared.message.Message.TheVariants as messages
use Rattle.state.specs.declared.refusal.Refusal.{Refusal}
use Rattle.state.specs.declared.refusal.Refusal.TheVariants.{PostUnfit, NoRegister, NotLowest, TooLarge, NoWord, NoSlot, TooManyHolds, NoHold}
use Rattle.state.specs.Registers.{is_register, held}
use Rattle.state.specs.Blocks.{word_at}
use Rattle.state.specs.Layout.{Layout, slot_count, lowest}
use Rattle.state.specs.Holds.{held_block, unheld_block}
use Rattle.state.specs.Memory.{World, block_at, collector_at, with_register, on_block}
use Rattle.state.specs.Messages.{decoded}
use Rattle.state.specs.Turns.{on_memory, turned}
use Rattle.state.specs.Calls
use Rattle.state.specs.Calls.{Outcome, Call, message, hold, return, answered, block_made, word_written, pointer_read}
use Rattle.state.specs.Pasts.{Points}
use Rattle.laws.specs.Roots.{Root, from_register}

-- P holds of the world that a refusal leaves, and of what each kind of accepted call leaves.
pub record EachCall (plan : Layout) (w : World) (P : World → Type 0) : Type 0 where
  pub refused : P w
  pub made : (p q n : ℕ) → is_register p ≡ true → lowest plan q ≡ true → leb n 8 ≡ true → ltb 0 (collector_at w.memory q).free ≡ true → P (on_memory (block_made p q n) w)
  pub written : (b i : ℕ) (k : Block) (v : Word) → Root w.memory b → block_at w.memory b ≡ Some k → ltb i k.size ≡ true → ((c : ℕ) → v ≡ Pointer c → Root w.memory c) → P (word_written plan b i v w)
  pub number : (p n : ℕ) → P (on_memory (with_register p (Number n)) w)
  pub copied : (p q : ℕ) → is_register q ≡ true → P (on_memory (λ s. with_register p (held s.registers q) s) w)
  pub read : (p b c : ℕ) → Root w.memory b → Points w.memory b c → P (pointer_read plan b c (on_memory (with_register p (Pointer c)) w))
  pub on_hold : (c : ℕ) → Root w.memory c → P (on_memory (on_block c held_block) w)
  pub returned : (c : ℕ) → P (on_memory (on_block c unheld_block) w)
  pub turn : (a : ℕ) → lowest plan a ≡ true → P (turned plan a w)

module _ (plan : Layout) (w : World) (P : World → Type 0) (each : EachCall plan w P) where
  -- a test in front of a call: the call is refused and leaves the world, or it passes
  passes : (ok : Bool) (e : Refusal) (o : Outcome) → (ok ≡ true → P o.world) → P (Calls.check ok e w o).world
  passes ok e o h = cond_both ok _ _ (λ (x : Outcome). P x.world) h (λ _. each.refused)

  -- a word below the size of a block: the block is there
  sized : (o : Option Block) (i : ℕ) → ltb i (Calls.size_of o) ≡ true → (k : Block) × ((o ≡ Some k) × ((ltb i k.size ≡ true) × (Calls.word_of o i ≡ word_at k i)))
  sized None i h = let below = ltb-true i 0 h in absurd (omega (arith, below))
  sized (Some k) i h = (k, (refl, (h, refl)))

  writes_to_lem : (p i n : ℕ) (r : Word) → is_register p ≡ true → is_register n ≡ true → held w.memory.registers p ≡ r → P (Calls.writes_to plan r i (held w.memory.registers n) w).world
  writes_to_lem p i n (Number x) okp okn at = each.refused
  writes_to_lem p i n (Pointer b) okp okn at =
      passes (ltb i (Calls.size_of (block_at w.memory b))) NoWord (Calls.accepted (word_written plan b i (held w.memory.registers n) w))
      (λ below.
      let there = sized (block_at w.memory b) i below in
      each.written b i there.0 (held w.memory.registers n) (from_register p okp at) there.1.0 there.1.1.0 (λ c e. from_register n okn e))

  reads_word : (p q i b : ℕ) → is_register q ≡ true → held w.memory.registers q ≡ Pointer b → ltb i (Calls.size_of (block_at w.memory b)) ≡ true →
      (v : Word) → Calls.word_of (block_at w.memory b) i ≡ v → P (Calls.word_read plan b p v w)
  reads_word p q i b ok at below (Number n) e = each.number p n
  reads_word p q i b ok at below (Pointer c) e =
      let there = sized (block_at w.memory b) i below in
      each.read p b c (from_register q ok at) (record { block = there.0; there = there.1.0; word = i; inside = ltb-true _ _ there.1.1.0; pointer = sym there.1.1.1 ∙ e })

  reads_from_lem : (p q i : ℕ) (r : Word) → is_register q ≡ true → held w.memory.registers q ≡ r → P (Calls.reads_from plan p r i w).world
  reads_from_lem p q i (Number x) ok at = each.refused
  reads_from_lem p q i (Pointer b) ok at =
      passes (ltb i (Calls.size_of (block_at w.memory b))) NoWord (Calls.accepted (Calls.word_read plan b p (Calls.word_of (block_at w.memory b) i) w))
      (λ below. reads_word p q i b ok at below (Calls.word_of (block_at w.memory b) i) refl)

  holds_in_lem : (r c : ℕ) → is_register r ≡ true → held w.memory.registers r ≡ Pointer c → (o : Option Block) → P (Calls.holds_in c o w).world
  holds_in_lem r c ok at None = each.refused
  holds_in_lem r c ok at (Some k) = passes (ltb k.holds 255) TooManyHolds (record { world = on_memory (on_block c held_block) w; answer = Ok c }) (λ _. each.on_hold c (from_register r ok at))

  holds_block_lem : (r : ℕ) (x : Word) → is_register r ≡ true → held w.memory.registers r ≡ x → P (Calls.holds_block x w).world
  holds_block_lem r (Number n) ok at = each.refused
  holds_block_lem r (Pointer c) ok at = holds_in_lem r c ok at (block_at w.memory c)

  makes : (p q n : ℕ) → P (Calls.makes plan p q n w).world
  makes p q n =
      let done = Calls.accepted (on_memory (block_made p q n) w) in
      let room = Calls.check (ltb 0 (collector_at w.memory q).free) NoSlot w done in
      let small = Calls.check (leb n 8) TooLarge w room in
      let placed = Calls.check (lowest plan q) NotLowest w small in
      passes (is_register p) NoRegister placed (λ okp. passes (lowest plan q) NotLowest small (λ low. passes (leb n 8) TooLarge room (λ fits. passes (ltb 0 (collector_at w.memory q).free) NoSlot done (λ free.
      each.made p q n okp low fits free))))

  message_done_lem : (m : Message) → P (Calls.message_done plan m w).world
  message_done_lem (messages.Make p q n) = makes p q n
  message_done_lem (messages.Write p i n) =
      passes (is_register p && is_register n) NoRegister (Calls.writes_to plan (held w.memory.registers p) i (held w.memory.registers n) w)
      (λ ok. let both = and_parts (is_register p) (is_register n) ok in writes_to_lem p i n (held w.memory.registers p) both.0 both.1 refl)
  message_done_lem (messages.Number p n) = passes (is_register p) NoRegister (Calls.accepted (on_memory (with_register p (Number n)) w)) (λ _. each.number p n)
  message_done_lem (messages.Read p q i) =
      passes (is_register p && is_register q) NoRegister (Calls.reads_from plan p (held w.memory.registers q) i w)
      (λ ok. reads_from_lem p q i (held w.memory.registers q) (and_parts (is_register p) (is_register q) ok).1 refl)
  message_done_lem (messages.Copy p q) =
      passes (is_register p && is_register q) NoRegister (Calls.accepted (on_memory (λ s. with_register p (held s.registers q) s) w)) (λ ok. each.copied p q (and_parts (is_register p) (is_register q) ok).1)
  message_done_lem (messages.Turn q) = passes (lowest plan q) NotLowest (Calls.accepted (turned plan q w)) (λ low. each.turn q low)

  message_answered_lem : (r : Result Message Refusal) → P (Calls.message_answered plan r w).world
  message_answered_lem (Ok m) = message_done_lem m
  message_answered_lem (Err e) = each.refused

  pub by_call : (size : ℕ) (c : Call) → P (answered plan size c w).world
  by_call size (message bytes) = passes (leb (slot_count plan) size) PostUnfit (Calls.message_answered plan (decoded bytes) w) (λ _. message_answered_lem (decoded bytes))
  by_call size (hold r) = passes (is_register r) NoRegister (Calls.holds_block (held w.memory.registers r) w) (λ ok. holds_block_lem r (held w.memory.registers r) ok refl)
  by_call size (return c) =
      passes (ltb 0 c && ltb 0 (Calls.holds_at (block_at w.memory c))) NoHold (Calls.accepted (on_memory (on_block c unheld_block) w)) (λ _. each.returned c)
