use Rattle.std.proofs.Common.{◌≡◌, ℕ, zero, suc, ◌+◌, ◌-◌, ◌<◌, ◌≤◌, Bool, cond, true, false, eqb, leb, ◌≢◌, List, [], ◌∷◌, map, length, get_or, set, Some, None, Option, is_some, ◌==◌, sym, refl, ap, ◌∙◌, subst, inl, inr, add-one, arith}
use Rattle.std.proofs.lemmas.List.{length-set, get_or-set_same, get_or-set_other, length-map, get_or-map}
use Rattle.std.proofs.lemmas.Grind.{common_steps}
use Rattle.std.proofs.lemmas.Bool.{cond_both, eq-eqb, ne_eqb, eqb-true, eqb-false, and_parts, and_from, leb-true, le-leb, both_ways, cases_eq, cases_Bool, cond-true, cond-false}
use Rattle.chain.specs.Chain.{place, numbered, link_of, changed, relink, Chain, Absent, without, among}
use Rattle.chain.specs.Chain.{put_table, PutsFirst, first_in, rest_of, TakesFirst, Taken}
use Rattle.std.specs.Option.{option_map}
use Rattle.std.specs.List.{find, slice_get}
use Rattle.chain.specs.Chain.{visits, VisitsChain, before, spot_behind, spot_of, behind_table, out_table, out_head, is_there, TakesOut}
use Rattle.chain.specs.declared.Spot.{Spot}

-- Numbers

pub numbered_parts : (n i : ℕ) → numbered n i ≡ true → (0 < i) × (i ≤ n)
numbered_parts n i e =
    let p = and_parts (leb 1 i) (leb i n) e in (leb-true 1 i p.0, leb-true i n p.1)

pub numbered_from : (n i : ℕ) → 0 < i → i ≤ n → numbered n i ≡ true
numbered_from n i z l = and_from (leb 1 i) (leb i n) (le-leb 1 i z) (le-leb i n l)

pub place_within : (n i : ℕ) → numbered n i ≡ true → place i < n
place_within n i e = omega (arith, numbered_parts n i e)

-- two records do not stand at one place
pub place_apart : (i j : ℕ) → 0 < i → 0 < j → (i ≡ j → ⊥) → place i ≢ place j
place_apart i j p q ne e = ne (omega arith)

-- Changes of the table

pub changed_set : {R : Type 0} (f : R → R) (xs : List R) (k : ℕ) (x y : R) → k < length xs → y ≡ f (get_or xs k x) → set xs k y ≡ changed f xs k
changed_set f [] k x y l h = refl
changed_set f (z ∷ xs) zero x y l h = ap (λ w. w ∷ xs) h
changed_set f (z ∷ xs) (suc k) x y l h = ap (λ ws. z ∷ ws) (changed_set f xs k x y (omega arith) h)

links_changed : {R : Type 0} (link : R → ℕ) (f : R → R) (n : ℕ) → ((x : R) → link (f x) ≡ n) → (xs : List R) (k : ℕ) → map link (changed f xs k) ≡ set (map link xs) k n
links_changed link f n e [] k = refl
links_changed link f n e (x ∷ xs) zero = ap (λ m. m ∷ map link xs) (e x)
links_changed link f n e (x ∷ xs) (suc k) = ap (λ ms. link x ∷ ms) (links_changed link f n e xs k)

-- a relinked record has its new link, and the links of all others are what they were
pub links_relink : {R : Type 0} (link : R → ℕ) (relinked : R → ℕ → R) → ((x : R) (n : ℕ) → link (relinked x n) ≡ n) → (xs : List R) (i n : ℕ) → map link (relink relinked xs i n) ≡ set (map link xs) (place i) n
links_relink link relinked law xs i n = links_changed link (λ x. relinked x n) n (λ x. law x n) xs (place i)

-- what the code writes, at place k
pub relink_set : {R : Type 0} (relinked : R → ℕ → R) (xs : List R) (i n k : ℕ) (x y : R) → k ≡ place i → k < length xs → y ≡ relinked (get_or xs k x) n → set xs k y ≡ relink relinked xs i n
relink_set relinked xs i n k x y p l h = changed_set (λ z. relinked z n) xs k x y l h ∙ ap (changed (λ z. relinked z n) xs) p

-- what the code reads, at place k
pub link_read : {R : Type 0} (link : R → ℕ) (xs : List R) (i n k : ℕ) (x : R) → k ≡ place i → k < length xs → n ≡ link (get_or xs k x) → n ≡ link_of (map link xs) i
link_read link xs i n k x p l h = h ∙ (sym (get_or-map link xs k x 0 l) ∙ ap (λ m. get_or (map link xs) m 0) p)

-- Chains

-- a write to a link that the chain does not visit leaves it a chain
pub chain_set : (links : List ℕ) (i n h : ℕ) (is : List ℕ) → 0 < i → Absent i is → Chain links h is → Chain (set links (place i) n) h is
chain_set links i n h [] z a c = c
chain_set links i n h (j ∷ js) z a c =
    let ne : place j ≢ place i = place_apart j i (numbered_parts _ j c.1).0 z (λ p. a.0 (sym p)) in
    (c.0, rw length-set c.1, c.2, rw get_or-set_other (chain_set links i n (link_of links j) js z a.1 c.3))

pub absent_without : (k i : ℕ) (js : List ℕ) → Absent k js → Absent k (without i js)
absent_without k i [] a = a
absent_without k i (j ∷ js) a =
    cond_both (eqb i j) js (j ∷ without i js) (Absent k) (λ _. a.1) (λ _. (a.0, absent_without k i js a.1))

-- which records a chain visits
pub chain_unique : (links : List ℕ) (h : ℕ) (is js : List ℕ) → Chain links h is → Chain links h js → is ≡ js
chain_unique links h [] [] c d = refl
chain_unique links h [] (j ∷ js) c d = absurd (omega (arith, c, d.0, numbered_parts _ j d.1))
chain_unique links h (i ∷ is) [] c d = absurd (omega (arith, d, c.0, numbered_parts _ i c.1))
chain_unique links h (i ∷ is) (j ∷ js) c d =
    let ij : i ≡ j = sym c.0 ∙ d.0 in
    let e : is ≡ js = chain_unique links (link_of links i) is js c.3 (rw ij d.3) in
    cc

-- A chain has at most as many records as the table

-- each is the number of a record, in a table of n
abbrev pub Within : ℕ → List ℕ → Type 0
Within n [] = Unit {0}
Within n (j ∷ js) = (0 < j) × (j ≤ n) × Within n js

abbrev pub Once : List ℕ → Type 0
Once [] = Unit {0}
Once (j ∷ js) = Absent j js × Once js

once_without : (i : ℕ) (js : List ℕ) → Once js → Once (without i js)
once_without i [] o = o
once_without i (j ∷ js) o =
    cond_both (eqb i j) js (j ∷ without i js) Once (λ _. o.1) (λ _. (absent_without j i js o.0, once_without i js o.1))

within_absent : (n : ℕ) (js : List ℕ) → Absent (n + 1) js → Within (n + 1) js → Within n js
within_absent n [] a b = b
within_absent n (j ∷ js) a b = (b.0, omega (arith, a.0, b.1), within_absent n js a.1 b.2)

within_without : (n : ℕ) (js : List ℕ) → Once js → Within (n + 1) js → Within n (without (n + 1) js)
within_without n [] o b = b
within_without n (j ∷ js) o b =
    cond_both (eqb (n + 1) j) js (j ∷ without (n + 1) js) (Within n)
    (λ t. within_absent n js (rw (eqb-true (n + 1) j t) o.0) b.2)
    (λ f. (b.0, omega (arith, eqb-false (n + 1) j f, b.1), within_without n js o.1 b.2))

length_without : (i : ℕ) (js : List ℕ) → length js ≤ length (without i js) + 1
length_without i [] = omega arith
length_without i (j ∷ js) =
    cond_both (eqb i j) js (j ∷ without i js) (λ l. length (j ∷ js) ≤ length l + 1) (λ _. omega arith) (λ _. omega (arith, length_without i js))

crowd : (n : ℕ) (js : List ℕ) → Within n js → Once js → length js ≤ n
crowd zero [] b o = omega arith
crowd zero (j ∷ js) b o = absurd (omega (arith, b.0, b.1))
crowd (suc n) js b o =
    let c : Within (n + 1) js = rw add-one b in
    omega (arith, crowd n (without (n + 1) js) (within_without n js o c) (once_without (n + 1) js o), length_without (n + 1) js)

chain_once : (links : List ℕ) (h : ℕ) (is : List ℕ) → Chain links h is → Once is × Within (length links) is
chain_once links h [] c = (tt, tt)
chain_once links h (i ∷ is) c =
    let r = chain_once links (link_of links i) is c.3 in
    let p = numbered_parts _ i c.1 in
    ((c.2, r.0), (p.0, p.1, r.1))

pub chain_length : (links : List ℕ) (h : ℕ) (is : List ℕ) → Chain links h is → length is ≤ length links
chain_length links h is c = let r = chain_once links h is c in crowd (length links) is r.1 r.0

-- a record that is not in the table is not in a chain
chain_absent : (links : List ℕ) (h i : ℕ) (is : List ℕ) → numbered (length links) i ≡ false → Chain links h is → Absent i is
chain_absent links h i [] f c = tt
chain_absent links h i (j ∷ js) f c =
    (λ e. both_ways _ f (rw e c.1), chain_absent links (link_of links j) i js f c.3)

pub among_absent : (i : ℕ) (js : List ℕ) → Absent i js → (false ≡ among i js) × (js ≡ without i js)
among_absent i [] a = (refl, refl)
among_absent i (j ∷ js) a =
    let t : eqb i j ≡ false = ne_eqb i j a.0 in
    let r = among_absent i js a.1 in
    (rw t r.0, rw t (ap (λ l. j ∷ l) r.1))

-- Putting a record first

chain_put : (links : List ℕ) (i h : ℕ) (is : List ℕ) → numbered (length links) i ≡ true → Absent i is → Chain links h is → Chain (set links (place i) h) i (i ∷ is)
chain_put links i h is t a c =
    let l : place i < length links = place_within _ i t in
    (refl, rw length-set t, a, rw get_or-set_same (chain_set links i h h is (numbered_parts _ i t).0 a c))

pub puts_first : {R : Type 0} (link : R → ℕ) (relinked : R → ℕ → R) → ((x : R) (n : ℕ) → link (relinked x n) ≡ n) → (xs ys : List R) (h i : ℕ) → ys ≡ put_table relinked xs h i → PutsFirst (map link xs) h i (map link ys) i
puts_first link relinked law xs ys h i t is c a n =
    let m : numbered (length xs) i ≡ true = rw length-map at n in
    let e : map link ys ≡ set (map link xs) (place i) h = ap (map link) (t ∙ cond-true _ _ _ m) ∙ links_relink link relinked law xs i h in
    let P : List ℕ → Type 0 = λ ls. Chain ls i (i ∷ is) in
    subst P (sym e) (chain_put (map link xs) i h is n a c)

-- Taking the first record

takes_first : {R : Type 0} (link : R → ℕ) (xs : List R) (h h' : ℕ) (o : Option ℕ) → o ≡ first_in (length xs) h → h' ≡ rest_of (map link xs) h → TakesFirst (map link xs) h h' o
takes_first link xs h h' o a b [] c =
    let f : numbered (length xs) h ≡ false = rw c refl in
    let g : numbered (length (map link xs)) h ≡ false = rw c refl in
    (a ∙ cond-false _ _ _ f, b ∙ (cond-false _ _ _ g ∙ c))
takes_first link xs h h' o a b (j ∷ js) c =
    let g : numbered (length (map link xs)) h ≡ true = rw c.0 c.1 in
    let f : numbered (length xs) h ≡ true = rw length-map at g in
    let e : h' ≡ link_of (map link xs) j = b ∙ (cond-true _ _ _ g ∙ ap (link_of (map link xs)) c.0) in
    (a ∙ (cond-true _ _ _ f ∙ ap Some c.0), rw e c.3)

pub taken_none : {R : Type 0} (link : R → ℕ) (xs : List R) (h : ℕ) → numbered (length xs) h ≡ false → Taken (length xs) (map link xs) h h None
taken_none link xs h f =
    let g : numbered (length (map link xs)) h ≡ false = rw length-map f in
    let a : None ≡ first_in (length xs) h = sym (cond-false _ _ _ f) in
    let b : h ≡ rest_of (map link xs) h = sym (cond-false _ _ _ g) in
    (a, b, takes_first link xs h h None a b)

pub taken_some : {R : Type 0} (link : R → ℕ) (xs : List R) (h n : ℕ) → numbered (length xs) h ≡ true → n ≡ link_of (map link xs) h → Taken (length xs) (map link xs) h n (Some h)
taken_some link xs h n f e =
    let g : numbered (length (map link xs)) h ≡ true = rw length-map f in
    let a : Some h ≡ first_in (length xs) h = sym (cond-true _ _ _ f) in
    let b : n ≡ rest_of (map link xs) h = e ∙ sym (cond-true _ _ _ g) in
    (a, b, takes_first link xs h n (Some h) a b)

-- The search for the record before

pub before_none : (links : List ℕ) (m at i : ℕ) → numbered (length links) at ≡ false → before links m at i ≡ None
before_none links zero at i f = refl
before_none links (suc m) at i f = cond-false _ _ _ f

pub before_here : (links : List ℕ) (m at i : ℕ) → 0 < m → numbered (length links) at ≡ true → link_of links at ≡ i → before links m at i ≡ Some at
before_here links zero at i z t e = absurd (omega (arith, z))
before_here links (suc m) at i z t e = cond-true _ _ _ t ∙ cond-true _ _ _ (eq-eqb _ i e)

pub before_on : (links : List ℕ) (m n at after i : ℕ) → m ≡ n + 1 → numbered (length links) at ≡ true → link_of links at ≡ after → (after ≡ i → ⊥) → before links m at i ≡ before links n after i
before_on links zero n at after i z t e ne = absurd (omega (arith, z))
before_on links (suc m) n at after i z t e ne =
    let q : m ≡ n = omega (arith, z) in
    cond-true _ _ _ t ∙ (cond-false _ _ _ (ne_eqb _ i (λ p. ne (sym e ∙ p))) ∙ rw (q, e) refl)

-- Taking a record out

-- what the search finds on the way along the chain j ∷ js
abbrev Found : List ℕ → ℕ → ℕ → List ℕ → Option ℕ → Type 0
Found links i j js None = Absent i js
Found links i j js (Some at) =
    (true ≡ among i js) × ((k : ℕ) → Absent k (j ∷ js) → k ≡ at → ⊥) × (0 < at) × Chain (set links (place at) (link_of links i)) j (j ∷ without i js)

found_here : (links : List ℕ) (i j k : ℕ) (ks : List ℕ) → k ≡ i → Chain links j (j ∷ k ∷ ks) → Found links i j (k ∷ ks) (Some j)
found_here links i j k ks e c =
    let t : eqb i k ≡ true = eq-eqb i k (sym e) in
    let l : place j < length links = place_within _ j c.1 in
    let z : 0 < j = (numbered_parts _ j c.1).0 in
    let d : Chain (set links (place j) (link_of links i)) (link_of links i) ks = chain_set links j _ _ ks z c.2.1 (rw (← e) c.3.3) in
    (rw t refl, λ m a. a.0, z, rw t (refl, rw length-set c.1, c.2.1, rw get_or-set_same d))

found_on : (links : List ℕ) (i j k : ℕ) (ks : List ℕ) (o : Option ℕ) → (k ≡ i → ⊥) → Chain links j (j ∷ k ∷ ks) → Found links i k ks o → Found links i j (k ∷ ks) o
found_on links i j k ks None ne c h = (λ e. ne (sym e), h)
found_on links i j k ks (Some at) ne c h =
    let t : eqb i k ≡ false = ne_eqb i k (λ e. ne (sym e)) in
    let d : place j ≢ place at = place_apart j at (numbered_parts _ j c.1).0 h.2 (h.1 j c.2) in
    let same : link_of (set links (place at) (link_of links i)) j ≡ k = get_or-set_other links (place at) (place j) (link_of links i) 0 d ∙ c.3.0 in (
      rw t h.0,
      λ m a. h.1 m a.1,
      h.2,
      rw t (refl, rw length-set c.1, (c.2.0, absent_without j i ks c.2.1), rw same h.3),
    )

before_chain : (links : List ℕ) (i : ℕ) → 0 < i → (js : List ℕ) (n j : ℕ) → Chain links j (j ∷ js) → length js < n → Found links i j js (before links n j i)
before_chain links i z [] n j c l =
    let e : before links n j i ≡ None = before_on links n (n - 1) j 0 i (omega arith) c.1 c.3 (λ p. omega (arith, p, z)) ∙ before_none links (n - 1) 0 i refl in
    subst (Found links i j []) (sym e) tt
before_chain links i z (k ∷ ks) n j c l =
    elim (cases_eq k i) [
      | inl p ↦ subst (Found links i j (k ∷ ks)) (sym (before_here links n j i (omega arith) c.1 (c.3.0 ∙ p))) (found_here links i j k ks p c)
      | inr ne ↦
          let d : Chain links k (k ∷ ks) = (refl, c.3.1, c.3.2, c.3.3) in
          subst (Found links i j (k ∷ ks)) (sym (before_on links n (n - 1) j k i (omega arith) c.1 c.3.0 ne))
          (found_on links i j k ks _ ne c (before_chain links i z ks (n - 1) k d (omega arith)))
    ]

pub before_within : (links : List ℕ) (m at i k : ℕ) → before links m at i ≡ Some k → numbered (length links) k ≡ true
before_within links zero at i k e = absurd (both_ways false refl (ap is_some e))
before_within links (suc m) at i k e =
    elim (cases_Bool (numbered (length links) at)) [
      | inl t ↦ elim (cases_Bool (link_of links at == i)) [
        | inl u ↦ grind (arith, common_steps)
        | inr u ↦ before_within links m (link_of links at) i k (rw (t, u) at e)
      ]
      | inr f ↦ absurd (both_ways false refl (ap is_some (sym (cond-false _ _ _ f) ∙ e)))
    ]

pub spot_nowhere : (links : List ℕ) (h i : ℕ) → numbered (length links) i ≡ false → None ≡ spot_of links h i
spot_nowhere links h i f = sym (cond-false _ _ _ f)

-- the first record, with its link
abbrev pub first_spot : ℕ → Option Spot
first_spot n = Some (record { before = None; next = n })

pub spot_first : (links : List ℕ) (h i n : ℕ) → numbered (length links) i ≡ true → h ≡ i → n ≡ link_of links i → first_spot n ≡ spot_of links h i
spot_first links h i n t e p = ap first_spot p ∙ sym (cond-true _ _ _ t ∙ cond-true _ _ _ (eq-eqb h i e))

pub spot_behind_lem : (links : List ℕ) (h i n m : ℕ) (o : Option ℕ) → numbered (length links) i ≡ true → (h ≡ i → ⊥) → n ≡ link_of links i → m ≡ length links → o ≡ before links m h i → spot_behind o n ≡ spot_of links h i
spot_behind_lem links h i n m o t ne p e q =
    let r : spot_behind o n ≡ spot_behind (before links (length links) h i) (link_of links i) = rw (q, p, e) refl in
    r ∙ sym (cond-true _ _ _ t ∙ cond-false _ _ _ (ne_eqb h i ne))

-- the links after
abbrev behind_links : List ℕ → Option ℕ → ℕ → List ℕ
behind_links links None n = links
behind_links links (Some at) n = set links (place at) n

abbrev out_links : List ℕ → Option Spot → List ℕ
out_links links None = links
out_links links (Some spot) = behind_links links spot.before spot.next

links_behind : {R : Type 0} (link : R → ℕ) (relinked : R → ℕ → R) → ((x : R) (n : ℕ) → link (relinked x n) ≡ n) → (xs : List R) (o : Option ℕ) (n : ℕ) → map link (behind_table relinked xs o n) ≡ behind_links (map link xs) o n
links_behind link relinked law xs None n = refl
links_behind link relinked law xs (Some at) n = links_relink link relinked law xs at n

links_out : {R : Type 0} (link : R → ℕ) (relinked : R → ℕ → R) → ((x : R) (n : ℕ) → link (relinked x n) ≡ n) → (xs : List R) (s : Option Spot) → map link (out_table relinked xs s) ≡ out_links (map link xs) s
links_out link relinked law xs None = refl
links_out link relinked law xs (Some spot) = links_behind link relinked law xs spot.before spot.next

abbrev Out : List ℕ → ℕ → ℕ → List ℕ → Option Spot → Type 0
Out links h i is s = (is_there s ≡ among i is) × Chain (out_links links s) (out_head h s) (without i is)

out_nowhere : (links : List ℕ) (h i : ℕ) (is : List ℕ) → Absent i is → Chain links h is → Out links h i is None
out_nowhere links h i is a c = let r = among_absent i is a in (r.0, rw (← r.1) c)

out_first : (links : List ℕ) (h i j : ℕ) (js : List ℕ) → h ≡ i → Chain links h (j ∷ js) → Out links h i (j ∷ js) (first_spot (link_of links i))
out_first links h i j js e c =
    let p : i ≡ j = sym e ∙ c.0 in
    let t : eqb i j ≡ true = eq-eqb i j p in
    (rw t refl, rw (t, p) c.3)

out_behind : (links : List ℕ) (i j : ℕ) (js : List ℕ) (o : Option ℕ) → (j ≡ i → ⊥) → Chain links j (j ∷ js) → Found links i j js o → Out links j i (j ∷ js) (spot_behind o (link_of links i))
out_behind links i j js None ne c h = out_nowhere links j i (j ∷ js) (λ e. ne (sym e), h) c
out_behind links i j js (Some at) ne c h =
    let t : eqb i j ≡ false = ne_eqb i j (λ e. ne (sym e)) in (rw t h.0, rw t h.3)

out_numbered : (links : List ℕ) (h i : ℕ) (is : List ℕ) → numbered (length links) i ≡ true → Chain links h is → Out links h i is (spot_of links h i)
out_numbered links h i [] t c =
    let z : 0 < i = (numbered_parts _ i t).0 in
    let f : numbered (length links) h ≡ false = rw c refl in
    let e : None ≡ spot_of links h i =
    spot_behind_lem links h i _ _ None t (λ p. omega (arith, p, c, z)) refl refl (sym (before_none links (length links) h i f))
    in
    subst (Out links h i []) e (out_nowhere links h i [] tt c)
out_numbered links h i (j ∷ js) t c =
    elim (cases_eq h i) [
      | inl p ↦ subst (Out links h i (j ∷ js)) (spot_first links h i _ t p refl) (out_first links h i j js p c)
      | inr ne ↦
          let d : Chain links j (j ∷ js) = (refl, c.1, c.2, c.3) in
          let l : length js < length links = omega (arith, chain_length links h (j ∷ js) c) in
          let ne' : j ≡ i → ⊥ = λ p. ne (c.0 ∙ p) in
          let P : ℕ → Type 0 = λ k. Out links k i (j ∷ js) (spot_of links k i) in
          subst P (sym c.0)
          (subst (Out links j i (j ∷ js)) (spot_behind_lem links j i _ _ _ t ne' refl refl refl)
          (out_behind links i j js _ ne' d (before_chain links i (numbered_parts _ i t).0 js (length links) j d l)))
    ]

out_chain : (links : List ℕ) (h i : ℕ) (is : List ℕ) → Chain links h is → Out links h i is (spot_of links h i)
out_chain links h i is c =
    elim (cases_Bool (numbered (length links) i)) [
      | inl t ↦ out_numbered links h i is t c
      | inr f ↦ subst (Out links h i is) (spot_nowhere links h i f) (out_nowhere links h i is (chain_absent links h i is f c) c)
    ]

pub takes_out : {R : Type 0} (link : R → ℕ) (relinked : R → ℕ → R) → ((x : R) (n : ℕ) → link (relinked x n) ≡ n) → (xs : List R) (h i : ℕ) (s : Option Spot) → s ≡ spot_of (map link xs) h i → TakesOut (map link xs) h i (map link (out_table relinked xs s)) (out_head h s) (is_there s)
takes_out link relinked law xs h i s e is c =
    let d : Out (map link xs) h i is s = subst (Out (map link xs) h i is) (sym e) (out_chain (map link xs) h i is c) in
    let P : List ℕ → Type 0 = λ ls. Chain ls (out_head h s) (without i is) in
    (d.0, subst P (sym (links_out link relinked law xs s)) d.1)

-- Visiting

read_there : {R : Type 0} (link : R → ℕ) (xs : List R) (k : ℕ) → k < length xs → (x : R) × (slice_get xs k ≡ Some x) × (link x ≡ get_or (map link xs) k 0)
read_there link [] k l = absurd (omega arith)
read_there link (x ∷ xs) zero l = (x, refl, refl)
read_there link (x ∷ xs) (suc k) l = read_there link xs k (omega arith)

visits_is : {R : Type 0} (link : R → ℕ) (xs : List R) (n at : ℕ) (is : List ℕ) → length is ≤ n → Chain (map link xs) at is → map (λ v. v.0) (visits link xs n at) ≡ is
visits_is link xs zero at [] l c = refl
visits_is link xs (suc n) at [] l c = rw c refl
visits_is link xs zero at (j ∷ js) l c = absurd (omega arith)
visits_is link xs (suc n) at (j ∷ js) l c =
    let t : numbered (length xs) j ≡ true = rw length-map at c.1 in
    let r = read_there link xs (place j) (place_within _ j t) in
    rw (c.0, t, r.1) (ap (λ (ks : List ℕ). j ∷ ks) (visits_is link xs n (link r.0) js (omega arith) (rw r.2 c.3)))

-- a chain has no more records than the table, so all of it is visited
pub visits_chain : {R : Type 0} (link : R → ℕ) (xs : List R) (head : ℕ) → VisitsChain link xs head (visits link xs (length xs) head)
visits_chain link xs head is c = visits_is link xs (length xs) head is (rw length-map at (chain_length (map link xs) head is c)) c

numbers : {A B : Type 0} (f : A → B) (o : Option (ℕ × A)) → option_map (λ (v : ℕ × A). v.0) o ≡ option_map (λ (v : ℕ × B). v.0) (option_map (λ (v : ℕ × A). (v.0, f v.1)) o)
numbers f None = refl
numbers f (Some v) = refl

pick : {R : Type 0} (b : Bool) (at : ℕ) (x : R) (o : Option (ℕ × R)) (p : Option ℕ) → option_map (λ v. v.0) o ≡ p → option_map (λ v. v.0) (cond b (Some (at, x)) o) ≡ cond b (Some at) p
pick true at x o p h = refl
pick false at x o p h = h

-- the record before i is the first that the chain visits with the link i
before_visited : {R : Type 0} (link : R → ℕ) (xs : List R) (n at i : ℕ) → option_map (λ v. v.0) (find (λ v. link v.1 == i) (visits link xs n at)) ≡ before (map link xs) n at i
before_visited link xs zero at i = refl
before_visited link xs (suc n) at i =
    elim (cases_Bool (numbered (length xs) at)) [
      | inl t ↦
          let r = read_there link xs (place at) (place_within _ at t) in
          let f : numbered (length (map link xs)) at ≡ true = rw length-map t in
          rw (t, r.1, f, ← r.2) (pick (link r.0 == i) at r.0 _ _ (before_visited link xs n (link r.0) i))
      | inr t ↦ let f : numbered (length (map link xs)) at ≡ false = rw length-map t in rw (t, f) refl
    ]

-- what a search of the visits for the link i finds
pub before_found : {A R : Type 0} (read : A → R) (link : R → ℕ) (xs : List R) (at i : ℕ) (o : Option (ℕ × A)) (r : Option ℕ) → r ≡ option_map (λ v. v.0) o
    → option_map (λ v. (v.0, read v.1)) o ≡ find (λ v. link v.1 == i) (visits link xs (length xs) at) → r ≡ before (map link xs) (length xs) at i
before_found read link xs at i o r e h = e ∙ numbers read o ∙ ap (option_map (λ v. v.0)) h ∙ before_visited link xs (length xs) at i
