-- Chained letters: the set that they keep, after one is put into a chain and after one is taken off.
use Rattle.std.specs.Prelude.{◌≡◌, ℕ, zero, suc, ◌-◌, ◌*◌, ◌<◌, ◌≤◌, true, false, List, [], ◌∷◌, length, ◌==◌, nat_eq, slice_index_or, refl}
use Rattle.std.proofs.Common.{Some, map, sym, ap, ◌∙◌, ⊎_elim, arith}
use Rattle.std.proofs.lemmas.Bool.{eqb-true, eqb-false, eq-eqb, and_parts, and_from, not-true, not_from_false, cases_Bool, cond-true, cond-false, both_ways}
use Rattle.std.proofs.lemmas.List.{get_or-map}
use Rattle.chain.specs.Chain.{numbered, link_of, among, Absent, Chain}
use Rattle.chain.proofs.Chains.{among_absent, place_within, chain_length}
use Rattle.post.specs.Marks.{is_mark}
use Rattle.post.specs.Letters.{letter_of, walk, visited, chained, Read}
use Rattle.post.specs.declared.letters.Letter.{Letter}
use Rattle.post.specs.Sets.{mark_parts}

-- Letters and their numbers

-- a mark has its own letter, among those of its block
pub letter_own : (n b m l : ℕ) → is_mark n b m l ≡ true → (6 * (b - 1) < letter_of b m l) × (letter_of b m l ≤ 6 * b)
letter_own n b m l on = let p = mark_parts n b m l on in (omega arith, omega arith)

pub letter_one : (n b m l b' m' l' : ℕ) → is_mark n b m l ≡ true → is_mark n b' m' l' ≡ true → letter_of b m l ≡ letter_of b' m' l'
    → (b ≡ b') × (m ≡ m') × (l ≡ l')
letter_one n b m l b' m' l' on on' e =
    let p = mark_parts n b m l on in
    let p' = mark_parts n b' m' l' on' in
    let eb : b ≡ b' = omega arith in
    (eb, omega arith, omega arith)

-- Chains as tests

pub absent_from : (i : ℕ) (js : List ℕ) → among i js ≡ false → Absent i js
absent_from i [] h = tt
absent_from i (j ∷ js) h =
    ⊎_elim
    (λ (e : nat_eq i j ≡ true). let z : true ≡ false = sym (cond-true (i == j) true (among i js) e) ∙ h in absurd (both_ways true z refl))
    (λ (e : nat_eq i j ≡ false). (eqb-false i j e, absent_from i js (sym (cond-false (i == j) true (among i js) e) ∙ h)))
    (cases_Bool (i == j))

pub absent_among : (i : ℕ) (js : List ℕ) → Absent i js → among i js ≡ false
absent_among i js a = sym (among_absent i js a).0

pub chain_from : (links : List ℕ) (head : ℕ) (is : List ℕ) → chained links head is ≡ true → Chain links head is
chain_from links head [] h = eqb-true head 0 h
chain_from links head (j ∷ js) h =
    let p = and_parts _ _ h in
    let q = and_parts _ _ p.1 in
    let r = and_parts _ _ q.1 in
    (eqb-true head j p.0, q.0, absent_from j js (not-true _ r.0), chain_from links (link_of links j) js r.1)

pub chain_test : (links : List ℕ) (head : ℕ) (is : List ℕ) → Chain links head is → chained links head is ≡ true
chain_test links head [] c = eq-eqb head 0 c
chain_test links head (j ∷ js) c =
    and_from _ _ (eq-eqb head j c.0)
    (and_from _ _ c.1 (and_from _ _ (not_from_false _ (absent_among j js c.2)) (chain_test links (link_of links j) js c.3)))

-- a walk visits the chain
walk_is : (n : ℕ) (links : List ℕ) (head : ℕ) (is : List ℕ) → Chain links head is → length is ≤ n → walk n links head ≡ is
walk_is zero links head [] c l = refl
walk_is (suc n) links head [] c l = rw c refl
walk_is zero links head (j ∷ js) c l = absurd (omega arith)
walk_is (suc n) links head (j ∷ js) c l =
    rw (c.0, c.1) (ap (λ (ks : List ℕ). j ∷ ks) (walk_is n links (link_of links j) js c.3 (omega arith)))

pub visited_is : (links : List ℕ) (head : ℕ) (is : List ℕ) → Chain links head is → visited links head ≡ is
visited_is links head is c = walk_is (length links) links head is c (chain_length links head is c)

-- a letter that was read
pub read : (letters : List Letter) (j : ℕ) (x : Letter) → numbered (length letters) j ≡ true → x ≡ slice_index_or letters (j - 1) x → Read letters j (Some x)
read letters j x on e =
    let field : (f : Letter → ℕ) → f x ≡ slice_index_or (map f letters) (j - 1) 0 = λ f. ap f e ∙ sym (get_or-map f letters (j - 1) x 0 (place_within (length letters) j on)) in
    (on, field (λ y. y.entry), field (λ y. y.level), field (λ y. y.next))
