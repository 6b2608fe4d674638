-- The set that a table keeps, after a write to one byte. Assumes nothing.
use Rattle.std.specs.Prelude.{◌≡◌, ℕ, ◌-◌, ◌*◌, ◌/◌, ◌%◌, ◌^◌, ◌<◌, ◌≤◌, Bool, true, false, not, ◌&&◌, ◌||◌, List, length, replicate, Vec, ◌==◌, ◌≢◌, bit_and, bit_or, bit_xor, nat_eq, slice_index, slice_index_or, slice_set}
use Rattle.std.proofs.Common.{sym, ◌∙◌, arith}
use Rattle.std.proofs.Math.Bool.{and-true, or-false}
use Rattle.std.proofs.Math.Path.{ap}
use Rattle.std.proofs.Math.Logic.{⊎_elim}
use Rattle.std.proofs.Math.Nat.{zero-div}
use Rattle.std.specs.declared.alloc.Global.{Global}
use Rattle.std.proofs.lemmas.List.{length-set, length-replicate, get_or-set_same, get_or-set_other, get_or-replicate, get_or_past, get_or_read_under}
use Rattle.std.proofs.lemmas.Bool.{cases_Bool, cases_eq, ne_eqb, and_left, and_right, and_parts, cases_lt}
use Rattle.std.proofs.lemmas.Bool.Decides.{nat_tests}
use Rattle.std.proofs.lemmas.Nat.{and_mask}
use Rattle.post.specs.Bits.{or_bit, xor_bit}
use Rattle.post.specs.Sets.{mark_parts, not_same, sets}
use Rattle.post.specs.Marks.{is_mark, mark_in, same, added, without, none, holds}
use Rattle.post.specs.Table.{kept, bit_on, place}
use Rattle.post.specs.declared.Mark.{Mark}

pub zero_at : (n i : ℕ) → slice_index_or {A = ℕ} (replicate n 0) i 0 ≡ 0
zero_at n i = ⊎_elim (get_or-replicate n i 0 0) (λ past. get_or_past (replicate n 0) i 0 (rw (length-replicate {A = ℕ} n 0) past)) (cases_lt i n)

zero_bit : (k : ℕ) → bit_on 0 k ≡ false
zero_bit k = rw (zero-div (2 ^ k))

-- a pair has its own bit
own_bit : (k : Mark) (n m l : ℕ) → mark_in n k ≡ true → is_mark n k.block m l ≡ true
    → (place m l == place k.entry k.level) ≡ same k k.block m l
own_bit k n m l km on = grind (arith, nat_tests)

module _ (F : Bool → Bool → Bool) (F-false : (a : Bool) → F a false ≡ a) (t : List ℕ) (k : Mark) (km : mark_in (length t) k ≡ true) (v : ℕ)
    (h : (j : ℕ) → j < 8 → bit_on v j ≡ F (bit_on (slice_index t (k.block - 1)) j) (j == place k.entry k.level)) where
  here : (m l : ℕ) → is_mark (length t) k.block m l ≡ true
      → bit_on (slice_index (slice_set t (k.block - 1) v) (k.block - 1)) (place m l) ≡ F (bit_on (slice_index t (k.block - 1)) (place m l)) (same k k.block m l)
  here m l on =
      let p = mark_parts (length t) k.block m l on in
      let low : k.block - 1 < length t = omega arith in
      ap (λ x. bit_on x (place m l)) (get_or-set_same t (k.block - 1) v 0 low)
      ∙ h (place m l) (omega arith)
      ∙ ap (F (bit_on (slice_index t (k.block - 1)) (place m l))) (own_bit k (length t) m l km on)

  there : (b m l : ℕ) → (b ≢ k.block) → 1 ≤ b → 1 ≤ k.block
      → bit_on (slice_index (slice_set t (k.block - 1) v) (b - 1)) (place m l) ≡ F (bit_on (slice_index t (b - 1)) (place m l)) (same k b m l)
  there b m l ne low lowk =
      ap (λ x. bit_on x (place m l)) (get_or-set_other t (k.block - 1) (b - 1) v 0 (λ e. ne (omega arith)))
      ∙ sym (F-false (bit_on (slice_index t (b - 1)) (place m l)))
      ∙ ap (F (bit_on (slice_index t (b - 1)) (place m l))) (sym (and_left _ _ (ne_eqb b k.block ne)))

  pub changed : (b m l : ℕ) → kept (slice_set t (k.block - 1) v) b m l ≡ F (kept t b m l) (same k b m l)
  unfolding kept
  changed b m l =
      ap (λ n. is_mark n b m l && bit_on (slice_index (slice_set t (k.block - 1) v) (b - 1)) (place m l)) (length-set t (k.block - 1) v)
      ∙ ⊎_elim
      (λ (on : is_mark (length t) b m l ≡ true).
      let p = mark_parts (length t) b m l on in
      let q = mark_parts (length t) k.block k.entry k.level km in
      rw on (⊎_elim (λ (e : b ≡ k.block). rw e (here m l (rw e at on))) (λ ne. there b m l ne p.0 q.0) (cases_eq b k.block)))
      (λ (off : is_mark (length t) b m l ≡ false). rw (off, not_same (length t) k b m l km off) (sym (F-false false)))
      (cases_Bool (is_mark (length t) b m l))

pub put_kept : (t : List ℕ) (k : Mark) → mark_in (length t) k ≡ true
    → kept (slice_set t (k.block - 1) (bit_or (slice_index t (k.block - 1)) ((1 * 2 ^ place k.entry k.level) % 256))) ≡ added k (kept t)
put_kept t k km =
    let q = mark_parts (length t) k.block k.entry k.level km in
    sets (changed ◌||◌ or-false t k km _ (λ j h. or_bit (slice_index t (k.block - 1)) j (place k.entry k.level) h (omega arith)))

pub clear_kept : (t : List ℕ) (k : Mark) → holds (kept t) k ≡ true
    → kept (slice_set t (k.block - 1) (bit_xor (slice_index t (k.block - 1)) ((1 * 2 ^ place k.entry k.level) % 256))) ≡ without k (kept t)
unfolding kept
clear_kept t k on =
    let parts = and_parts (mark_in (length t) k) (bit_on (slice_index t (k.block - 1)) (place k.entry k.level)) on in
    let q = mark_parts (length t) k.block k.entry k.level parts.0 in
    sets (changed (λ a c. a && not c) and-true t k parts.0 _ (λ j h. xor_bit (slice_index t (k.block - 1)) j (place k.entry k.level) h (omega arith) parts.1))

-- only marks are kept
pub kept_marks : (t : List ℕ) (b m l : ℕ) → kept t b m l ≡ true → is_mark (length t) b m l ≡ true
unfolding kept
kept_marks t b m l h = (and_parts (is_mark (length t) b m l) (bit_on (slice_index t (b - 1)) (place m l)) h).0

pub kept_no_mark : (t : List ℕ) (k : Mark) → mark_in (length t) k ≡ false → holds (kept t) k ≡ false
unfolding kept
kept_no_mark t k off = rw off

pub kept_mark : (t : List ℕ) (k : Mark) → mark_in (length t) k ≡ true
    → (bit_and (slice_index t (k.block - 1) / 2 ^ place k.entry k.level) 1 == 1) ≡ holds (kept t) k
unfolding kept
kept_mark t k on = rw on (ap (λ x. nat_eq x 1) (and_mask (slice_index t (k.block - 1) / 2 ^ place k.entry k.level) 1))

-- nothing is kept in a table of zeros
pub kept_none : (n : ℕ) → kept (replicate n 0) ≡ none
unfolding kept
kept_none n = sets (λ b m l. and_right _ _ (ap (λ x. bit_on x (place m l)) (zero_at n (b - 1)) ∙ zero_bit (place m l)))

-- nor in a byte that is 0
pub kept_zero : (t : List ℕ) (b m l : ℕ) → slice_index t (b - 1) ≡ 0 → kept t b m l ≡ false
unfolding kept
kept_zero t b m l e = and_right _ _ (ap (λ x. bit_on x (place m l)) e ∙ zero_bit (place m l))

-- A table in a `Vec`

pub kept_in : (t : Vec ℕ Global) (b m l : ℕ) → kept t.items b m l ≡ true → is_mark t.len b m l ≡ true
kept_in t b m l h = ap (λ n. is_mark n b m l) t.ok.0 ∙ kept_marks t.items b m l h

pub in_items : (t : Vec ℕ Global) (k : Mark) → mark_in t.len k ≡ true → mark_in (length t.items) k ≡ true
in_items t k on = ap (λ n. mark_in n k) (sym t.ok.0) ∙ on

-- what is read at a block
pub block_read : (t : Vec ℕ Global) (b x : ℕ) → 1 ≤ b → b ≤ t.len → x ≡ slice_index_or t.items (b - 1) x → x ≡ slice_index t.items (b - 1)
block_read t b x low high e = get_or_read_under t.items (b - 1) t.len x 0 e (omega arith) t.ok.0

-- and at the block of a mark
pub mark_read : (t : Vec ℕ Global) (k : Mark) (x : ℕ) → mark_in t.len k ≡ true → x ≡ slice_index_or t.items (k.block - 1) x → x ≡ slice_index t.items (k.block - 1)
mark_read t k x on e = let p = mark_parts t.len k.block k.entry k.level on in block_read t k.block x p.0 p.1 e
