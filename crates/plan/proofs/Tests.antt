-- A test of each element of a list, and what it tells.
use Rattle.std.proofs.Common.{◌≡◌, ℕ, zero, suc, ◌+◌, ◌<◌, ◌≤◌, Bool, true, List, [], ◌∷◌, refl, subst, ⊎_elim, arith}
use Rattle.std.specs.List.{range_with_len, AllByRecursion}
use Rattle.std.proofs.lemmas.Bool.{and_parts, and_from, cases_eq}
use Rattle.chain.specs.Chain.{numbered}
use Rattle.chain.proofs.Chains.{numbered_parts, numbered_from}
use Rattle.plan.specs.Tree.{every}

module _ {X : Type 0} (ok : X → Bool) where
  pub all_from_test : (xs : List X) → every ok xs ≡ true → AllByRecursion (λ x. ok x ≡ true) xs
  all_from_test [] e = tt
  all_from_test (x ∷ xs) e = let p = and_parts (ok x) (every ok xs) e in (p.0, all_from_test xs p.1)

  pub test_from_all : (xs : List X) → AllByRecursion (λ x. ok x ≡ true) xs → every ok xs ≡ true
  test_from_all [] a = refl
  test_from_all (x ∷ xs) a = and_from (ok x) (every ok xs) a.0 (test_from_all xs a.1)

-- a test of each of the numbers from i on
module _ (ok : ℕ → Bool) where
  pub every_from_lem : (i k : ℕ) → ((j : ℕ) → i ≤ j → j < i + k → ok j ≡ true) → every ok (range_with_len i k) ≡ true
  every_from_lem i zero h = refl
  every_from_lem i (suc k) h = and_from _ _ (h i (omega arith) (omega arith)) (every_from_lem (i + 1) k (λ j l m. h j (omega arith) (omega arith)))

  pub every_at : (i k : ℕ) → every ok (range_with_len i k) ≡ true → (j : ℕ) → i ≤ j → j < i + k → ok j ≡ true
  every_at i zero e j l m = absurd (omega arith)
  every_at i (suc k) e j l m =
      let p = and_parts (ok i) _ e in
      ⊎_elim (λ (q : i ≡ j). subst (λ x. ok x ≡ true) q p.0) (λ (q : i ≡ j → ⊥). every_at (i + 1) k p.1 j (omega (arith, q)) (omega arith)) (cases_eq i j)

  -- the same of the numbers of n records
  pub each_number : (n : ℕ) → every ok (range_with_len 1 n) ≡ true → (i : ℕ) → numbered n i ≡ true → ok i ≡ true
  each_number n e i t = let p = numbered_parts n i t in every_at 1 n e i p.0 (omega (arith, p.1))

  pub number_each : (n : ℕ) → ((i : ℕ) → numbered n i ≡ true → ok i ≡ true) → every ok (range_with_len 1 n) ≡ true
  number_each n h = every_from_lem 1 n (λ j l m. h j (numbered_from n j l (omega arith)))
