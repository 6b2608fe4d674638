-- Searches through a range of blocks. `w` holds only marks of n blocks.
use Rattle.std.proofs.Common.{◌≡◌, ℕ, ◌+◌, ◌-◌, ◌<◌, ◌≤◌, min, max, Bool, true, false, List, length, MatchBool, ◌∙◌, ⊎_elim, arith}
use Rattle.std.specs.List.{range_with_len, AllWithin, HoldsAt}
use Rattle.std.proofs.lemmas.Bool.{cases_Bool, cases_lt, cases_eq}
use Rattle.std.proofs.lemmas.Bool.Decides.{nat_tests}
use Rattle.std.proofs.lemmas.List.FromFn.{length-range_with_len, get_or-range_with_len}
use Rattle.post.specs.Marks.{Waits, is_mark, within, Quiet, AnyAt}
use Rattle.post.specs.Sets.{mark_parts}

range : (first last b : ℕ) → within first last b ≡ true → (first ≤ b) × (b ≤ last)
range first last b h = grind (arith, nat_tests)

-- a range of one block
pub one : (block b : ℕ) → within block block b ≡ true → b ≡ block
one block b h = grind (arith, nat_tests)

pub one_self : (block : ℕ) → within block block block ≡ true
one_self block = grind (arith, nat_tests)

pub within_one : (first last block b : ℕ) → first ≤ block → block ≤ last → within block block b ≡ true → within first last b ≡ true
within_one first last block b low high h = grind (arith, nat_tests)

pub quiet_one : (block : ℕ) (w : Waits) → ((m l : ℕ) → w block m l ≡ false) → Quiet block block w
quiet_one block w h b m l e = rw (one block b e) (h m l)

-- nothing waits in the range before block i
abbrev pub QuietBelow : ℕ → ℕ → Waits → ℕ → Type 0
QuietBelow first last w i = (b m l : ℕ) → b < i → within first last b ≡ true → w b m l ≡ false

pub quiet_more : (first last : ℕ) (w : Waits) (i : ℕ) → QuietBelow first last w i → Quiet i i w → QuietBelow first last w (i + 1)
quiet_more first last w i below here b m l h e =
    ⊎_elim (λ (s : b ≡ i). here b m l (rw s (one_self i))) (λ (ne : b ≡ i → ⊥). below b m l (omega arith) e) (cases_eq b i)

-- the result of a search through a list: whether an element passes, where `Pass x` and `Fail x` say how x is tested
abbrev pub AnyOf : {X : Type 0} → (X → Type 0) → (X → Type 0) → List X → Bool → Type 0
AnyOf Pass Fail xs r = MatchBool r ((k : ℕ) × (k < length xs) × HoldsAt Pass xs k) (AllWithin Fail xs 0 (length xs))

module _ (n : ℕ) (w : Waits) (bound : (b m l : ℕ) → w b m l ≡ true → is_mark n b m l ≡ true) (first last : ℕ) where
  pub never : (b m l : ℕ) → ((1 ≤ b) × (b ≤ n) × (2 ≤ m) × (m ≤ l) × (l ≤ 4) → ⊥) → w b m l ≡ false
  never b m l wrong =
      ⊎_elim (λ (on : w b m l ≡ true). absurd (wrong (mark_parts n b m l (bound b m l on)))) (λ off. off) (cases_Bool (w b m l))

  -- the blocks before a search begins, and after it ends
  pub quiet_before : (i : ℕ) → i ≤ max first 1 → QuietBelow first last w i
  quiet_before i start b m l h e = never b m l (λ p. omega (arith, range first last b e))

  pub quiet_all : (i : ℕ) → min last n + 1 ≤ i → QuietBelow first last w i → Quiet first last w
  quiet_all i end below b m l e =
      ⊎_elim (λ h. below b m l h e) (λ h. never b m l (λ p. omega (arith, range first last b e))) (cases_lt b i)

  -- a search of the range's blocks for a mark level
  pub any_found : (level start end : ℕ) → start ≡ max first 1 → end ≡ min last n + 1 → (r : Bool)
      → AnyOf (λ b. AnyAt level b b w true) (λ b. AnyAt level b b w false) (range_with_len start (end - start)) r → AnyAt level first last w r
  any_found level start end from to true (k, h, on) =
      let inside : k < end - start = rw length-range_with_len at h in
      let (b, m, e, waits) = rw (get_or-range_with_len start (end - start) k 0 inside) at (on 0) in
      (b, m, within_one first last (start + k) b (omega arith) (omega arith) e, waits)
  any_found level start end from to false none = λ b m e.
      ⊎_elim
      (λ (on : w b m level ≡ true).
      let p = mark_parts n b m level (bound b m level on) in
      let q = range first last b e in
      let inside : b - start < end - start = omega arith in
      let here : start + (b - start) ≡ b = omega arith in
      let off = rw (get_or-range_with_len start (end - start) (b - start) 0 inside ∙ here) at (none (b - start) 0 (omega arith) (rw length-range_with_len inside)) in
      off b m (one_self b))
      (λ off. off)
      (cases_Bool (w b m level))
