-- Which numbers `a..=b` gives.
use Rattle.std.proofs.Common.{◌≡◌, ℕ, ◌+◌, ◌-◌, Bool, true, false, List, ◌∷◌, Some, add-one, ap, sym, subst, ◌∙◌, refl, arith}
use Rattle.std.specs.List.{range_with_len}
use Rattle.std.specs.Range.{range_inclusive_len, range_inclusive_start, range_inclusive_end, range_inclusive_exhausted, range_inclusive_left}
use Rattle.std.specs.declared.ops.RangeInclusive.{RangeInclusive}
use Rattle.std.proofs.iter.runs.Sources.{nat_range_inclusive_steps}
use Rattle.std.proofs.lemmas.List.FromFn.{length-range_with_len}
use Rattle.std.proofs.lemmas.Iterator.{YieldsList}
use Rattle.std.proofs.lemmas.Iterator.Consumers.{YieldsList-from_shown}

-- how many numbers `a..=b` has left, and which
abbrev count_left : RangeInclusive ℕ → ℕ
count_left s = range_inclusive_left (λ x y. y - x) s

abbrev numbers_left : RangeInclusive ℕ → List ℕ
numbers_left s = range_with_len (range_inclusive_start s) (count_left s)

rest : (a b n : ℕ) (spent : Bool) → (spent ≡ true → n ≡ 0) → (spent ≡ false → b ≡ a + 1) → range_with_len (a + 1) n ≡ range_with_len b n
rest a b n true none next = rw (none refl)
rest a b n false none next = ap (λ k. range_with_len k n) (sym (next refl))

takes_first : (s : RangeInclusive ℕ) (x : ℕ) (t : RangeInclusive ℕ) → nat_range_inclusive_steps s (Some x) t → numbers_left s ≡ x ∷ numbers_left t
takes_first s x t h =
    ap (range_with_len (range_inclusive_start s)) (sym h.1.1 ∙ add-one (count_left t))
    ∙ (λ i. sym h.1.0 i ∷ rest (range_inclusive_start s) (range_inclusive_start t) (count_left t) (range_inclusive_exhausted t) (λ e. ap (range_inclusive_len (λ y z. z - y) (range_inclusive_start t) (range_inclusive_end t)) e) h.1.2 i)

left_of : (s : RangeInclusive ℕ) (a b n : ℕ) → range_inclusive_start s ≡ a → range_inclusive_end s ≡ b → range_inclusive_exhausted s ≡ false → b + 1 - a ≡ n → numbers_left s ≡ range_with_len a n
left_of s a b n start end fresh count =
    (λ i. range_with_len (start i) (range_inclusive_len (λ x y. y - x) (start i) (end i) (fresh i))) ∙ ap (range_with_len a) (omega arith)

-- from a range that nothing was taken from yet come the n numbers from a on
pub YieldsList-from_range_inclusive : {s : RangeInclusive ℕ} (a b n : ℕ) → range_inclusive_start s ≡ a → range_inclusive_end s ≡ b → range_inclusive_exhausted s ≡ false → b + 1 - a ≡ n → YieldsList nat_range_inclusive_steps (λ x. x) s (range_with_len a n)
YieldsList-from_range_inclusive {s} a b n start end fresh count =
    subst (YieldsList nat_range_inclusive_steps (λ x. x) s) (left_of s a b n start end fresh count) (YieldsList-from_shown nat_range_inclusive_steps (λ x. x) numbers_left (λ t u h. length-range_with_len _ _ ∙ h.1.0) takes_first s)
