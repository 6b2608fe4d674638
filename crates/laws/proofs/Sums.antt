-- Sums over numbers in a row: bounds, and sums that are less.
use Rattle.std.proofs.Common.{◌≡◌, ℕ, zero, suc, ◌+◌, ◌*◌, ◌<◌, ◌≤◌, Bool, true, false, refl, subst, inl, inr, suc-mul, arith}
use Rattle.std.proofs.lemmas.Bool.{cases_eq, true≢false, false≢true}

-- 1 if the test passes
abbrev pub bit : Bool → ℕ
bit true = 1
bit false = 0

pub bit_most : (t : Bool) → bit t ≤ 1
bit_most true = omega arith
bit_most false = omega arith

pub bit_less : (t u : Bool) → (u ≡ true → t ≡ true) → bit u ≤ bit t
bit_less true true h = omega arith
bit_less true false h = omega arith
bit_less false true h = absurd (false≢true (h refl))
bit_less false false h = omega arith

pub bit_falls : (t u : Bool) → t ≡ true → u ≡ false → bit u < bit t
bit_falls true true h k = absurd (true≢false k)
bit_falls true false h k = omega arith
bit_falls false u h k = absurd (false≢true h)

-- f i + f (i + 1) + .., n of them
abbrev pub sum_over : (ℕ → ℕ) → ℕ → ℕ → ℕ
sum_over f i zero = 0
sum_over f i (suc n) = f i + sum_over f (i + 1) n

pub sum_most : (f : ℕ → ℕ) (c : ℕ) → ((j : ℕ) → f j ≤ c) → (i n : ℕ) → sum_over f i n ≤ n * c
sum_most f c h i zero = omega arith
sum_most f c h i (suc n) =
    let here = h i in
    let rest = sum_most f c h (i + 1) n in
    let e = suc-mul n c in
    omega (arith, here, rest, e)

-- terms that are no more
pub sum_less : (f g : ℕ → ℕ) (i n : ℕ) → ((j : ℕ) → i ≤ j → j < i + n → g j ≤ f j) → sum_over g i n ≤ sum_over f i n
sum_less f g i zero h = omega arith
sum_less f g i (suc n) h =
    let here = h i (omega arith) (omega arith) in
    let rest = sum_less f g (i + 1) n (λ j l m. h j (omega arith) (omega arith)) in
    omega (arith, here, rest)

-- and one of them less
pub sum_falls : (f g : ℕ → ℕ) (i n : ℕ) → ((j : ℕ) → i ≤ j → j < i + n → g j ≤ f j) → (k : ℕ) → i ≤ k → k < i + n → g k < f k → sum_over g i n < sum_over f i n
sum_falls f g i zero h k lo hi less = absurd (omega arith)
sum_falls f g i (suc n) h k lo hi less =
    elim (cases_eq k i) [
      | inl same ↦
          let here : g i < f i = subst (λ j. g j < f j) same less in
          let rest = sum_less f g (i + 1) n (λ j l m. h j (omega arith) (omega arith)) in
          omega (arith, here, rest)
      | inr other ↦
          let here = h i (omega arith) (omega arith) in
          let rest = sum_falls f g (i + 1) n (λ j l m. h j (omega arith) (omega arith)) k (omega arith) (omega arith) less in
          omega (arith, here, rest)
    ]
