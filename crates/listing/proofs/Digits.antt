-- How many digits a number below 2 ^ 16 has.
use Rattle.std.proofs.Common.{◌≡◌, ℕ, ◌+◌, ◌/◌, ◌<◌, ◌≤◌, length, decimal, ap, ◌∙◌, arith}
use Rattle.itoa.proofs.Decimal.{length_one, length_two, length_pair, length_four}

pub one : (n : ℕ) → n < 10 → length (decimal n) ≡ 1
one n few = length_one n few

pub two : (n : ℕ) → 10 ≤ n → n < 100 → length (decimal n) ≡ 2
two n many few = length_two n many few

pub three : (n : ℕ) → 100 ≤ n → n < 1000 → length (decimal n) ≡ 3
three n many few = length_pair n many (omega arith) ∙ ap (λ k. k + 2) (one (n / 100) (omega arith))

pub four : (n : ℕ) → 1000 ≤ n → n < 10000 → length (decimal n) ≡ 4
four n many few = length_pair n (omega arith) (omega arith) ∙ ap (λ k. k + 2) (two (n / 100) (omega arith) (omega arith))

pub five : (n : ℕ) → 10000 ≤ n → n < 65536 → length (decimal n) ≡ 5
five n many few = length_four n many (omega arith) ∙ ap (λ k. k + 4) (one (n / 10000) (omega arith))
