-- No block ever has an entry of a level above the top.
use Rattle.std.proofs.Common.{◌≡◌, ℕ, zero, suc, ◌-◌, ◌<◌, ◌≤◌, Bool, true, false, cond, not, ◌&&◌, eqb, leb, get_or, is_some, Some, None, Ok, Err, Option, Result, refl, ap, ◌∙◌, subst, arith}
use Rattle.std.proofs.lemmas.List.{get_or-set_other}
use Rattle.std.proofs.lemmas.Bool.{cond_both, leb-true}
use Rattle.chain.specs.Chain.{numbered}
use Rattle.post.specs.Marks.{Waits}
use Rattle.state.specs.declared.word.Word.{Word}
use Rattle.state.specs.declared.word.Word.TheVariants.{Number, Pointer}
use Rattle.state.specs.declared.block.Block.{Block}
use Rattle.state.specs.declared.refusal.Refusal.{Refusal}
use Rattle.state.specs.declared.refusal.Refusal.TheVariants.{PostUnfit}
use Rattle.state.specs.Blocks.{new_block, with_word, shade, has_entry, entered, entry_at, with_entry}
use Rattle.state.specs.Holds.{with_holds, held_block, unheld_block}
use Rattle.state.specs.Layout.{Layout, top, slot_count, level_of}
use Rattle.state.specs.Lawful.{Lawful}
use Rattle.state.specs.Memory.{Memory, World, block_at, link_at, collector_at, changed_block, on_block, with_register}
use Rattle.state.specs.Turns.{on_memory, turned}
use Rattle.state.specs.Calls.{Call, answered, any_waits, made, fresh, word_written, pointer_read}
use Rattle.state.specs.Pasts.{Past, making, then}
use Rattle.laws.specs.Views.{entry, entry_in}
use Rattle.laws.specs.Inductive.{Sound}
use Rattle.laws.proofs.Plans.{numbered_first}
use Rattle.laws.proofs.Frames.{block_on, slot_any}
use Rattle.laws.proofs.ByCall.{by_call}
use Rattle.laws.proofs.TurnKinds.{turn_kind}
use Rattle.laws.proofs.Live.{NoneAboveTop, none_above_top}
use Rattle.laws.proofs.Making.{none_used}
use Rattle.laws.proofs.Kept.{invariant_past}

-- a change of a block that makes no entry of level m
entry_changed : (m : ℕ) (t : Bool) (f : Block → Block) → ((k : Block) → has_entry k m ≡ false → has_entry (f k) m ≡ false) → (o : Option Block) → entry_in o m ≡ false → entry_in (changed_block (λ k. cond t (f k) k) o) m ≡ false
entry_changed m t f keeps None h = h
entry_changed m t f keeps (Some k) h = cond_both t (f k) k (λ x. has_entry x m ≡ false) (λ _. keeps k h) (λ _. h)

entry_on : (m : ℕ) (f : Block → Block) → ((k : Block) → has_entry k m ≡ false → has_entry (f k) m ≡ false) → (c : ℕ) (s : Memory) (b : ℕ) → 1 ≤ b → entry s b m ≡ false → entry (on_block c f s) b m ≡ false
entry_on m f keeps c s b one h = ap (λ o. entry_in o m) (block_on c f s b one) ∙ entry_changed m (eqb b c) f keeps (block_at s b) h

-- an entry of another level is made
entry_made : (j m : ℕ) → 2 ≤ j → j < m → (k : Block) → has_entry k m ≡ false → has_entry (with_entry j k) m ≡ false
entry_made j m lj less k h = ap is_some (get_or-set_other k.entries (j - 2) (m - 2) (entered (entry_at k j)) None (λ e. omega (arith, e, lj, less))) ∙ h

-- a new block has none
no_entry : (n i : ℕ) → is_some (get_or (new_block n).entries i None) ≡ false
no_entry n zero = refl
no_entry n (suc zero) = refl
no_entry n (suc (suc zero)) = refl
no_entry n (suc (suc (suc i))) = refl

module _ (plan : Layout) (law : Lawful plan) where
  -- one block changes, and gets no entry above the top
  top_on : (c : ℕ) (f : Block → Block) (s : Memory) → ((m : ℕ) → top plan < m → (k : Block) → has_entry k m ≡ false → has_entry (f k) m ≡ false) → NoneAboveTop plan s → NoneAboveTop plan (on_block c f s)
  top_on c f s keeps none b m n less hm = entry_on m f (keeps m less) c s b (numbered_first _ b n) (none b m n less hm)

  top_written : (b i : ℕ) (w : World) → numbered (slot_count plan) b ≡ true → (v : Word) → ((c : ℕ) → v ≡ Pointer c → numbered (slot_count plan) c ≡ true) → NoneAboveTop plan w.memory → NoneAboveTop plan (word_written plan b i v w).memory
  top_written b i w nb (Number x) nc none = top_on b (with_word i (Number x)) w.memory (λ m less k h. h) none
  top_written b i w nb (Pointer c) nc none =
      let written = top_on b (with_word i (Pointer c)) w.memory (λ m less k h. h) none in
      cond_both (leb 2 (level_of plan b c)) _ _ (λ (v : World). NoneAboveTop plan v.memory)
      (λ crosses. top_on c (with_entry (level_of plan b c)) (on_block b (with_word i (Pointer c)) w.memory)
      (λ m less. entry_made (level_of plan b c) m (leb-true _ _ crosses) (omega (arith, less, (law.level_within b c nb (nc c refl)).1))) written)
      (λ _. written)

  top_read : (b c : ℕ) (w : World) → NoneAboveTop plan w.memory → NoneAboveTop plan (pointer_read plan b c w).memory
  top_read b c w none =
      let shaded = top_on c shade w.memory (λ m less k h. h) none in
      cond_both (leb 2 (level_of plan b c)) _ _ (λ (v : World). NoneAboveTop plan v.memory) (λ _. shaded) (λ _. shaded)

  top_held : (t : Bool) (n m : ℕ) (k : Block) → has_entry k m ≡ false → has_entry (cond t k (with_holds n k)) m ≡ false
  top_held t n m k h = cond_both t k (with_holds n k) (λ x. has_entry x m ≡ false) (λ _. h) (λ _. h)

  -- every call keeps it: only a write makes an entry, of the level of its pointer
  pub top_calls : (size : ℕ) (c : Call) (w : World) → Sound plan w.memory → NoneAboveTop plan w.memory → NoneAboveTop plan (answered plan size c w).world.memory
  top_calls size c w sound none =
      by_call plan w (λ v. NoneAboveTop plan v.memory)
      (record {
        refused = none;
        made = λ p q n _ _ _ _ b m nb less hm.
            slot_any (λ o. entry_in o m ≡ false) w.memory.slots (collector_at w.memory q).free (record { block = Some (new_block n); next = link_at w.memory (collector_at w.memory q).free }) (no_entry n (m - 2)) b (none b m nb less hm);
        written = λ b i k v r _ _ roots. top_written b i w (sound.rooted_slots b r) v (λ c e. sound.rooted_slots c (roots c e)) none;
        number = λ p n. none;
        copied = λ p q _. none;
        read = λ p b c _ _. top_read b c (on_memory (with_register p (Pointer c)) w) none;
        on_hold = λ c _. top_on c held_block w.memory (λ m less k h. top_held _ _ m k h) none;
        returned = λ c. top_on c unheld_block w.memory (λ m less k h. top_held _ _ m k h) none;
        turn = λ a low. none_above_top plan law a low w (turned plan a w) (turn_kind plan law a low w sound) none;
      })
      size c

  top_fresh : NoneAboveTop plan (fresh plan)
  top_fresh b m n less hm = ap (λ o. entry_in o m) (none_used plan b)

  abbrev TopMade : Result World Refusal → Type 0
  TopMade (Ok v) = NoneAboveTop plan v.memory
  TopMade (Err e) = Unit {0}

  top_made : (size : ℕ) (o : Waits) → TopMade (made plan size o)
  top_made size o = cond_both (leb (slot_count plan) size && not (any_waits size o)) (Ok (record { memory = fresh plan; waits = o })) (Err PostUnfit) TopMade (λ _. top_fresh) (λ _. tt)

  -- so it holds in every past
  pub top_past : (size : ℕ) (w : World) → Past plan size w → NoneAboveTop plan w.memory
  top_past size v (making o marks v' is_made) = subst TopMade is_made (top_made size o)
  top_past size v (then {w} past c) = top_calls size c w (invariant_past plan law size w past).sound (top_past size w past)
