-- How often a number stands in a list.
use Rattle.std.proofs.Common.{◌≡◌, ℕ, zero, suc, ◌+◌, ◌≤◌, Bool, true, false, cond, ◌&&◌, eqb, leb, List, [], ◌∷◌, map, length, is_some, Some, None, sum_by, count_by, sym, refl, ap, ◌∙◌, subst, ⊎_elim, arith}
use Rattle.std.specs.List.{AllByRecursion}
use Rattle.std.proofs.lemmas.List.Sums.{sum_by-cons, count_by-le-length}
use Rattle.std.proofs.lemmas.Bool.{cases_eq, eq-eqb, ne_eqb}
use Rattle.std.proofs.lemmas.Bool.Decides.{nat_tests}
use Rattle.chain.specs.Chain.{numbered}
use Rattle.chain.proofs.Chains.{numbered_from, numbered_parts}
use Rattle.plan.specs.declared.area.Place.{Place}
use Rattle.plan.specs.Tree.{unmet, only_place}

pub sum_by_map : {X Y : Type 0} (f : Y → ℕ) (g : X → Y) (xs : List X) → sum_by f (map g xs) ≡ sum_by (λ x. f (g x)) xs
sum_by_map f g [] = refl
sum_by_map f g (x ∷ xs) = sum_by-cons f (g x) (map g xs) ∙ ap (λ s. f (g x) + s) (sum_by_map f g xs) ∙ sym (sum_by-cons (λ x. f (g x)) x xs)

abbrev pub times : ℕ → List ℕ → ℕ
times i ns = count_by (λ j. eqb j i) ns

times_here : (i j : ℕ) (js : List ℕ) → j ≡ i → times i (j ∷ js) ≡ suc (times i js)
times_here i j js e =
    let h : times i (j ∷ js) ≡ 1 + times i js = sum_by-cons (λ j. cond (eqb j i) 1 0) j js ∙ ap (λ b. cond b 1 0 + times i js) (eq-eqb j i e) in
    omega arith

times_other : (i j : ℕ) (js : List ℕ) → (j ≡ i → ⊥) → times i (j ∷ js) ≡ times i js
times_other i j js ne =
    let h : times i (j ∷ js) ≡ 0 + times i js = sum_by-cons (λ j. cond (eqb j i) 1 0) j js ∙ ap (λ b. cond b 1 0 + times i js) (ne_eqb j i ne) in
    omega arith

-- what holds of each element holds of a number that is one
pub all_times : (P : ℕ → Type 0) (ns : List ℕ) (i : ℕ) → AllByRecursion P ns → 1 ≤ times i ns → P i
all_times P [] i a l = absurd (omega arith)
all_times P (n ∷ ns) i a l =
    ⊎_elim
    (λ (e : n ≡ i). subst P e a.0)
    (λ (ne : n ≡ i → ⊥). all_times P ns i a.1 (omega (arith, times_other i n ns ne)))
    (cases_eq n i)

-- how many of the elements are at most n
abbrev upto : ℕ → List ℕ → ℕ
upto n ns = count_by (λ j. leb j n) ns

upto_one : (n j : ℕ) → ◌≡◌ {A = ℕ} (cond (leb j (suc n)) 1 0) (cond (leb j n) 1 0 + cond (eqb j (suc n)) 1 0)
upto_one n j = grind (arith, nat_tests)

upto_more : (n : ℕ) (ns : List ℕ) → upto (suc n) ns ≡ upto n ns + times (suc n) ns
upto_more n [] = refl
upto_more n (j ∷ js) =
    let a = sum_by-cons (λ j. cond (leb j (suc n)) 1 0) j js in
    let b = sum_by-cons (λ j. cond (leb j n) 1 0) j js in
    let c = sum_by-cons (λ j. cond (eqb j (suc n)) 1 0) j js in
    let h = upto_more n js in
    omega (arith, upto_one n j)

upto_least : (ns : List ℕ) (n : ℕ) → ((i : ℕ) → numbered n i ≡ true → 1 ≤ times i ns) → n ≤ upto n ns
upto_least ns zero h = omega arith
upto_least ns (suc n) h =
    let below = upto_least ns n (λ i t. let p = numbered_parts n i t in h i (numbered_from (suc n) i p.0 (omega arith))) in
    omega (arith, upto_more n ns, h (suc n) (numbered_from (suc n) (suc n) (omega arith) (omega arith)))

-- a list in which each of 1 to n stands has at least n elements
pub length_covers : (n : ℕ) (ns : List ℕ) → ((i : ℕ) → numbered n i ≡ true → 1 ≤ times i ns) → n ≤ length ns
length_covers n ns h = omega (arith, upto_least ns n h, count_by-le-length (λ j. leb j n) ns)

-- the numbers of the areas that a walk meets
abbrev pub numbers_of : List Place → List ℕ
numbers_of ps = map (λ p. p.area) ps

-- the walk meets an area at one place just if its number stands once among those that it meets
unmet_times : (ps : List Place) (i : ℕ) → unmet ps i ≡ eqb (times i (numbers_of ps)) 0
unmet_times [] i = refl
unmet_times (p ∷ ps) i =
    let others = numbers_of ps in
    ⊎_elim
    (λ (e : p.area ≡ i). ap (λ b. cond b false true && unmet ps i) (eq-eqb _ i e) ∙ sym (ne_eqb _ 0 (λ z. omega (arith, times_here i p.area others e))))
    (λ (ne : p.area ≡ i → ⊥). ap (λ b. cond b false true && unmet ps i) (ne_eqb _ i ne) ∙ unmet_times ps i ∙ ap (λ n. eqb n 0) (sym (times_other i p.area others ne)))
    (cases_eq p.area i)

some_if : {X : Type 0} (b : Bool) (x : X) → is_some (cond b (Some x) None) ≡ b
some_if true x = refl
some_if false x = refl

one_more : (n : ℕ) → eqb n 0 ≡ eqb (suc n) 1
one_more n = grind (arith, nat_tests)

pub only_times : (ps : List Place) (i : ℕ) → is_some (only_place ps i) ≡ eqb (times i (numbers_of ps)) 1
only_times [] i = refl
only_times (p ∷ ps) i =
    let others = numbers_of ps in
    let here : Bool → Bool = λ b. is_some (cond b (cond (unmet ps i) (Some p) None) (only_place ps i)) in
    ⊎_elim
    (λ (e : p.area ≡ i). ap here (eq-eqb _ i e) ∙ some_if (unmet ps i) p ∙ unmet_times ps i ∙ one_more (times i others) ∙ ap (λ n. eqb n 1) (sym (times_here i p.area others e)))
    (λ (ne : p.area ≡ i → ⊥). ap here (ne_eqb _ i ne) ∙ only_times ps i ∙ ap (λ n. eqb n 1) (sym (times_other i p.area others ne)))
    (cases_eq p.area i)
