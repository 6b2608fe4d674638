-- A bit of a byte after `|` and `^` with one bit. Assumes nothing.
use Rattle.std.specs.Prelude.{◌≡◌, ℕ, zero, suc, ◌*◌, ◌/◌, ◌%◌, ◌^◌, ◌<◌, Bool, true, false, cond, not, ◌&&◌, ◌||◌, ◌⊎◌, ◌==◌, bit_or, bit_xor, nat_eq, refl}
use Rattle.std.proofs.Common.{sym, ap, ◌∙◌, inl, inr, arith}
use Rattle.std.proofs.lemmas.Nat.{or_shr, or_mod, xor_shr, xor_mod, one_shl}
use Rattle.std.proofs.lemmas.Bool.{eqb-true}
use Rattle.std.proofs.lemmas.Bool.Decides.{Decides-below_and}
use Rattle.post.specs.Table.{bit_on}

abbrev all_below : (ℕ → Bool) → ℕ → Bool
all_below f zero = true
all_below f (suc n) = f n && all_below f n

all-at : (f : ℕ → Bool) (n : ℕ) → all_below f n ≡ true → (k : ℕ) → k < n → f k ≡ true
all-at f n h = (Decides-below_and f (λ k. f k ≡ true) (all_below f) (λ k. ((λ e. e), (λ e. e))) refl (λ _. refl) n).0 h

-- the bits of a power of two, by one computed test
abbrev pow_test : ℕ → ℕ → Bool
pow_test j p = 2 ^ p / 2 ^ j % 2 == cond (j == p) 1 0

pow_bit : (j p : ℕ) → j < 8 → p < 8 → 2 ^ p / 2 ^ j % 2 ≡ cond (j == p) 1 0
pow_bit j p hj hp =
    eqb-true _ _ (all-at (pow_test j) 8 (all-at (λ i. all_below (pow_test i) 8) 8 refl j hj) p hp)

bit_cases : (x : ℕ) → (x % 2 ≡ 0) ⊎ (x % 2 ≡ 1)
bit_cases x = grind arith

or_bits : (y : ℕ) (c : Bool) → (y ≡ 0) ⊎ (y ≡ 1) → (bit_or y (cond c 1 0) == 1) ≡ (y == 1 || c)
or_bits y true (inl e) = rw e
or_bits y false (inl e) = rw e
or_bits y true (inr e) = rw e
or_bits y false (inr e) = rw e

xor_bits : (y : ℕ) (c : Bool) → (c ≡ true → (y == 1) ≡ true) → (y ≡ 0) ⊎ (y ≡ 1) → (bit_xor y (cond c 1 0) == 1) ≡ (y == 1 && not c)
xor_bits y true h (inl e) = let z : ◌≡◌ {A = ℕ} 0 1 = sym e ∙ eqb-true y 1 (h refl) in absurd (omega arith)
xor_bits y false h (inl e) = rw e
xor_bits y true h (inr e) = rw e
xor_bits y false h (inr e) = rw e

pub or_bit : (x j p : ℕ) → j < 8 → p < 8 → bit_on (bit_or x ((1 * 2 ^ p) % 256)) j ≡ (bit_on x j || j == p)
or_bit x j p hj hp =
    ap (λ v. bit_on (bit_or x v) j) (one_shl p 8 hp)
    ∙ ap (λ v. nat_eq (v % 2) 1) (or_shr x (2 ^ p) j)
    ∙ ap (λ v. nat_eq v 1) (or_mod (x / 2 ^ j) (2 ^ p / 2 ^ j) 1)
    ∙ ap (λ v. nat_eq (bit_or (x / 2 ^ j % 2) v) 1) (pow_bit j p hj hp)
    ∙ or_bits (x / 2 ^ j % 2) (j == p) (bit_cases (x / 2 ^ j))

pub xor_bit : (x j p : ℕ) → j < 8 → p < 8 → bit_on x p ≡ true → bit_on (bit_xor x ((1 * 2 ^ p) % 256)) j ≡ (bit_on x j && not (j == p))
xor_bit x j p hj hp on =
    ap (λ v. bit_on (bit_xor x v) j) (one_shl p 8 hp)
    ∙ ap (λ v. nat_eq (v % 2) 1) (xor_shr x (2 ^ p) j)
    ∙ ap (λ v. nat_eq v 1) (xor_mod (x / 2 ^ j) (2 ^ p / 2 ^ j) 1)
    ∙ ap (λ v. nat_eq (bit_xor (x / 2 ^ j % 2) v) 1) (pow_bit j p hj hp)
    ∙ xor_bits (x / 2 ^ j % 2) (j == p) (λ e. ap (bit_on x) (eqb-true j p e) ∙ on) (bit_cases (x / 2 ^ j))
