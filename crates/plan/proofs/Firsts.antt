-- Looking for the first number that fails a test, a step at a time.
use Rattle.std.proofs.Common.{◌≡◌, ℕ, zero, suc, ◌+◌, ◌-◌, ◌<◌, ◌≤◌, Bool, true, false, cond, ◌&&◌, List, [], ◌∷◌, ◌++◌, map, length, get_or, drop, not, Option, Some, None, sym, refl, ap, ◌∙◌, add-one, arith}
use Rattle.std.specs.List.{range_with_len, position_from}
use Rattle.std.specs.Option.{option_map}
use Rattle.std.proofs.lemmas.List.{at_drop_more, at_drop_all}
use Rattle.std.proofs.lemmas.List.FromFn.{map-range_with_len_more}
use Rattle.std.proofs.lemmas.Bool.{and_parts, cond-true}
use Rattle.plan.specs.Reading.{first_wrong}
use Rattle.plan.specs.Tree.{every}

module _ (ok : ℕ → Bool) where
  pub wrong_none : (i k : ℕ) → k ≡ 0 → first_wrong ok i k ≡ None
  wrong_none i k e = rw e

  pub wrong_here : (i k : ℕ) → 0 < k → ok i ≡ false → first_wrong ok i k ≡ Some i
  wrong_here i zero l e = absurd (omega arith)
  wrong_here i (suc k) l e = rw e

  pub wrong_more : (i j k m : ℕ) → j ≡ i + 1 → k ≡ m + 1 → ok i ≡ true → first_wrong ok i k ≡ first_wrong ok j m
  wrong_more i j k m ji km e = rw (km, add-one, e, ji)

-- where none is wrong, each passes
pub every_from_none : (ok : ℕ → Bool) (i k : ℕ) → first_wrong ok i k ≡ None → every ok (range_with_len i k) ≡ true
every_from_none ok i zero e = refl
every_from_none ok i (suc k) e =
    elim (ok i) as (λ b. cond b (first_wrong ok (i + 1) k) (Some i) ≡ None → (b && every ok (range_with_len (i + 1) k)) ≡ true)
    [ true ↦ λ h. every_from_none ok (i + 1) k h | false ↦ λ h. absurd (grind (arith, h)) ] e

pub none_from_every : (ok : ℕ → Bool) (i k : ℕ) → every ok (range_with_len i k) ≡ true → first_wrong ok i k ≡ None
none_from_every ok i zero e = refl
none_from_every ok i (suc k) e = let p = and_parts (ok i) _ e in cond-true _ _ _ p.0 ∙ none_from_every ok (i + 1) k p.1

-- where one is wrong, not each passes
pub every_from_some : (ok : ℕ → Bool) (i k w : ℕ) → first_wrong ok i k ≡ Some w → every ok (range_with_len i k) ≡ false
every_from_some ok i zero w e = absurd (grind (arith, e))
every_from_some ok i (suc k) w e =
    elim (ok i) as (λ b. cond b (first_wrong ok (i + 1) k) (Some i) ≡ Some w → (b && every ok (range_with_len (i + 1) k)) ≡ false)
    [ true ↦ λ h. every_from_some ok (i + 1) k w h | false ↦ λ h. refl ] e

-- the numbers from 1 on are tried in their order: those below `number` passed, and each has its value in xs
pub record Tried {X : Type 0} (ok : ℕ → Bool) (f : ℕ → X) (count number : ℕ) (xs : List X) : Type 0 where
  pub within : number ≤ count + 1
  passed : first_wrong ok 1 count ≡ first_wrong ok number (count + 1 - number)
  made : xs ≡ map f (range_with_len 1 (number - 1))

module _ {X : Type 0} (ok : ℕ → Bool) (f : ℕ → X) (count : ℕ) where
  pub tried_none : Tried ok f count 1 []
  tried_none = let e : count + 1 - 1 ≡ count = omega arith in record { within = omega arith; passed = rw e refl; made = refl }

  module _ (number : ℕ) (xs : List X) (t : Tried ok f count number xs) where
    pub tried_more : (ys : List X) (x : X) → 1 ≤ number → number ≤ count → ok number ≡ true → ys ≡ xs ++ (x ∷ []) → x ≡ f number → Tried ok f count (number + 1) ys
    tried_more ys x low high e p q =
        let here : number + 1 - 1 ≡ number - 1 + 1 = omega (arith, low) in
        record {
          within = omega arith;
          passed = t.passed ∙ wrong_more ok number (number + 1) _ _ refl (omega (arith, high)) e;
          made = p ∙ ap (λ l. l ++ (x ∷ [])) t.made ∙ ap (λ y. map f (range_with_len 1 (number - 1)) ++ (y ∷ [])) q ∙ sym (map-range_with_len_more f 1 (number - 1) number (omega (arith, low))) ∙ ap (λ k. map f (range_with_len 1 k)) (sym here);
        }

    pub tried_wrong : number ≤ count → ok number ≡ false → first_wrong ok 1 count ≡ Some number
    tried_wrong high e = t.passed ∙ wrong_here ok number _ (omega (arith, high)) e

  pub tried_all : (xs : List X) (number : ℕ) → number ≡ count + 1 → Tried ok f count number xs → (first_wrong ok 1 count ≡ None) × (xs ≡ map f (range_with_len 1 count))
  tried_all xs number e t =
      let all : number - 1 ≡ count = omega (arith, e) in
      (t.passed ∙ wrong_none ok number _ (omega (arith, e)), t.made ∙ ap (λ k. map f (range_with_len 1 k)) all)

-- the first number whose element fails a test is one more than the element's index
pub wrong_position : {X : Type 0} (ok : X → Bool) (xs : List X) (d : X) (n k : ℕ) → k + n ≡ length xs → first_wrong (λ i. ok (get_or xs (i - 1) d)) (k + 1) n ≡ option_map (λ j. j + 1) (position_from (λ x. not (ok x)) k (drop k xs))
wrong_position ok xs d zero k e = sym (at_drop_all (λ ys. option_map (λ j. j + 1) (position_from (λ x. not (ok x)) k ys)) xs k (omega (arith, e)))
wrong_position ok xs d (suc n) k e =
    let back : k + 1 - 1 ≡ k = omega arith in
    let here : ok (get_or xs (k + 1 - 1) d) ≡ ok (get_or xs k d) = ap (λ i. ok (get_or xs i d)) back in
    ap (λ b. cond b (first_wrong (λ i. ok (get_or xs (i - 1) d)) (k + 1 + 1) n) (Some (k + 1))) here
    ∙ step (ok (get_or xs k d)) _ _ (wrong_position ok xs d n (k + 1) (omega (arith, e)))
    ∙ sym (at_drop_more (λ ys. option_map (λ j. j + 1) (position_from (λ x. not (ok x)) k ys)) xs k d (omega (arith, e)))
  where
    step : (b : Bool) (found first : Option ℕ) → first ≡ option_map (λ j. j + 1) found → cond b first (Some (k + 1)) ≡ option_map (λ j. j + 1) (cond (not b) (Some k) found)
    step true found first e = e
    step false found first e = refl
