-- The records of a plan are the picture of a tree.
use Rattle.std.proofs.Common.{◌≡◌, ℕ, zero, suc, ◌+◌, ◌<◌, ◌≤◌, true, false, leb, List, [], ◌∷◌, ◌++◌, length, sym, ap, ◌∙◌, subst, ⊎_elim, arith}
use Rattle.std.specs.List.{AllByRecursion}
use Rattle.std.proofs.lemmas.List.{append-nil, length-append, map-append, length-map}
use Rattle.std.proofs.lemmas.Bool.{cases_Bool, and_parts, leb-true, eqb-true, ne_eqb, cond-true, cond-false}
use Rattle.chain.specs.Chain.{numbered}
use Rattle.chain.proofs.Chains.{numbered_from, numbered_parts}
use Rattle.plan.specs.declared.area.Area.{Area}
use Rattle.plan.specs.declared.area.Place.{Place}
use Rattle.plan.specs.Walk.{area_at, along, walk_from, walk_of, slots_in}
use Rattle.plan.specs.Tree.{fits}
use Rattle.plan.specs.Reading.{slots_right}
use Rattle.plan.specs.Trees.{Tree, Row, Stands, Chained, Pictured}
use Rattle.plan.specs.Trees.Tree.{lowest, region}
use Rattle.plan.specs.Trees.Row.{last, then}
use Rattle.plan.specs.Trees.Stands.{as_lowest, as_region}
use Rattle.plan.specs.Trees.Chained.{ends, goes_on}
use Rattle.plan.proofs.Counts.{numbers_of, sum_by_map, length_covers}
use Rattle.plan.proofs.Rules.{Rules}
use Rattle.plan.proofs.Walks.{along_end, along_more, unnumbered}

-- some chain of trees of level l stands from i on
abbrev SomeRow : List Area → ℕ → ℕ → List ℕ → Type 0
SomeRow areas l i numbers = (row : Row l) × Chained areas l row i numbers

abbrev SomeTree : List Area → ℕ → ℕ → List ℕ → Type 0
SomeTree areas l i numbers = (tree : Tree l) × Stands areas l tree i numbers

-- what stands for a tree is a record of its level
pub stands_numbered : {areas : List Area} {l : ℕ} {tree : Tree l} {i : ℕ} {numbers : List ℕ} → Stands areas l tree i numbers → numbered (length areas) i ≡ true
stands_numbered (as_lowest i t level child least most) = t
stands_numbered (as_region i t level slots row) = t

pub stands_level : {areas : List Area} {l : ℕ} {tree : Tree l} {i : ℕ} {numbers : List ℕ} → Stands areas l tree i numbers → ((area_at areas i).level ≡ l) × (1 ≤ l)
stands_level (as_lowest i t level child least most) = (level, omega arith)
stands_level (as_region i t level slots row) = (level, omega arith)

pub chained_numbered : {areas : List Area} {l : ℕ} {row : Row l} {i : ℕ} {numbers : List ℕ} → Chained areas l row i numbers → numbered (length areas) i ≡ true
chained_numbered (ends i tree end) = stands_numbered tree
chained_numbered (goes_on i tree row) = stands_numbered tree

-- a chain of one record stands for one tree
alone_stands : {areas : List Area} {l : ℕ} {row : Row l} {i : ℕ} {numbers : List ℕ} → Chained areas l row i numbers → (area_at areas i).next ≡ 0 → SomeTree areas l i numbers
alone_stands (ends {tree = tree} i stands end) z = (tree, stands)
alone_stands {areas} (goes_on i stands row) z = absurd (omega (arith, z, numbered_parts (length areas) _ (chained_numbered row)))

all_parts : {X : Type 0} (P : X → Type 0) (xs ys : List X) → AllByRecursion P (xs ++ ys) → AllByRecursion P xs × AllByRecursion P ys
all_parts P [] ys a = (tt, a)
all_parts P (x ∷ xs) ys a = let r = all_parts P xs ys a.1 in ((a.0, r.0), r.1)

module _ (areas : List Area)
    (range : (i : ℕ) → numbered (length areas) i ≡ true → ((area_at areas i).child ≤ length areas) × ((area_at areas i).next ≤ length areas))
    (right : (i : ℕ) → numbered (length areas) i ≡ true → slots_right (area_at areas i) ≡ true)
  where
    -- where all places of what stands below area i fit, and are not too many, a tree stands there
    abbrev Standing : ℕ → Type 0
    Standing l =
        (i parent b after : ℕ) →
        numbered (length areas) i ≡ true →
        fits areas (record { area = i; level = suc l; parent = parent; before = b; after = after }) ≡ true →
        AllByRecursion (λ p. fits areas p ≡ true) (walk_from areas l i (area_at areas i).child (b + (area_at areas i).slots)) →
        length (walk_from areas l i (area_at areas i).child (b + (area_at areas i).slots)) ≤ length areas →
        SomeTree areas (suc l) i (i ∷ numbers_of (walk_from areas l i (area_at areas i).child (b + (area_at areas i).slots)))

    -- a tree, and the row after it if the chain goes on
    row_step : (l i : ℕ) (inner rest : List Place) → numbered (length areas) i ≡ true → SomeTree areas l i (i ∷ numbers_of inner) →
        (numbered (length areas) (area_at areas i).next ≡ true → SomeRow areas l (area_at areas i).next (numbers_of rest)) →
        (numbered (length areas) (area_at areas i).next ≡ false → rest ≡ []) →
        SomeRow areas l i (i ∷ numbers_of (inner ++ rest))
    row_step l i inner rest t tree more done =
        ⊎_elim
        (λ (n : numbered (length areas) (area_at areas i).next ≡ true).
        let row = more n in
        (then tree.0 row.0, rw map-append (goes_on i tree.1 row.1)))
        (λ (n : numbered (length areas) (area_at areas i).next ≡ false).
        let e : inner ++ rest ≡ inner = ap (λ ps. inner ++ ps) (done n) ∙ append-nil inner in
        let z : (area_at areas i).next ≡ 0 = unnumbered (length areas) (area_at areas i).next n (range i t).1 in
        (last tree.0, rw e (ends i tree.1 z)))
        (cases_Bool (numbered (length areas) (area_at areas i).next))

    row_stands : (l : ℕ) → Standing l → (f parent i b : ℕ) → f ≤ length areas + 1 →
        numbered (length areas) i ≡ true →
        AllByRecursion (λ p. fits areas p ≡ true) (along areas (walk_from areas l) (suc l) parent f i b) →
        length (along areas (walk_from areas l) (suc l) parent f i b) < f →
        SomeRow areas (suc l) i (numbers_of (along areas (walk_from areas l) (suc l) parent f i b))
    row_stands l below zero parent i b r t a s = absurd (omega arith)
    row_stands l below (suc f) parent i b r t a s =
        let inner = walk_from areas l i (area_at areas i).child (b + (area_at areas i).slots) in
        let b' = b + (area_at areas i).slots + slots_in areas inner in
        let rest = along areas (walk_from areas l) (suc l) parent f (area_at areas i).next b' in
        let p : Place = record { area = i; level = suc l; parent = parent; before = b; after = b' } in
        let e : along areas (walk_from areas l) (suc l) parent (suc f) i b ≡ p ∷ (inner ++ rest) = along_more areas (walk_from areas l) (suc l) parent (suc f) f i b (omega arith) t in
        let fit : AllByRecursion (λ p. fits areas p ≡ true) (p ∷ (inner ++ rest)) = subst (AllByRecursion (λ p. fits areas p ≡ true)) e a in
        let parts = all_parts (λ p. fits areas p ≡ true) inner rest fit.1 in
        let long : suc (length inner + length rest) < suc f = omega (arith, s, ap length e, length-append inner rest) in
        subst (λ ps. SomeRow areas (suc l) i (numbers_of ps)) (sym e)
        (row_step (suc l) i inner rest t (below i parent b b' t fit.0 parts.0 (omega arith))
        (λ n. row_stands l below f parent (area_at areas i).next b' (omega arith) n parts.1 (omega arith))
        (λ n. along_end areas (walk_from areas l) (suc l) parent f (area_at areas i).next b' n))

    tree_stands : (l : ℕ) → Standing l
    unfolding walk_from
    tree_stands zero i parent b after t h a s =
        let p = and_parts _ _ h in
        let level : (area_at areas i).level ≡ 1 = eqb-true _ 1 p.0 in
        let q = and_parts (leb 1 (area_at areas i).slots) (leb (area_at areas i).slots 1024) (sym (cond-true _ _ _ p.0) ∙ right i t) in
        (lowest (area_at areas i).slots, as_lowest i t level (eqb-true _ 0 p.1) (leb-true _ _ q.0) (leb-true _ _ q.1))
    tree_stands (suc l) i parent b after t h a s =
        let p = and_parts _ _ h in
        let level : (area_at areas i).level ≡ suc (suc l) = eqb-true _ (suc (suc l)) p.0 in
        let child : 1 ≤ (area_at areas i).child = leb-true _ _ (sym (cond-false _ _ _ (ne_eqb (suc (suc l)) 1 (λ z. omega arith))) ∙ p.1) in
        let slots : (area_at areas i).slots ≡ 0 = eqb-true _ 0 (sym (cond-false _ _ _ (ne_eqb (area_at areas i).level 1 (λ z. omega arith))) ∙ right i t) in
        let row = row_stands l (tree_stands l) (length areas + 1) i (area_at areas i).child (b + (area_at areas i).slots) (omega arith) (numbered_from _ _ child (range i t).0) a (omega arith) in
        (region row.0, as_region i t level slots row.1)

-- the walk of the whole plan
top_stands : (areas : List Area) (level : ℕ) → 1 ≤ level → numbered (length areas) 1 ≡ true → (area_at areas 1).next ≡ 0 →
    ((i : ℕ) → numbered (length areas) i ≡ true → ((area_at areas i).child ≤ length areas) × ((area_at areas i).next ≤ length areas)) →
    ((i : ℕ) → numbered (length areas) i ≡ true → slots_right (area_at areas i) ≡ true) →
    AllByRecursion (λ p. fits areas p ≡ true) (walk_from areas level 0 1 0) → length (walk_from areas level 0 1 0) ≤ length areas →
    SomeTree areas level 1 (numbers_of (walk_from areas level 0 1 0))
unfolding walk_from
top_stands areas zero l t z range right a s = absurd (omega arith)
top_stands areas (suc level) l t z range right a s =
    alone_stands (row_stands areas range right level (tree_stands areas range right level) (length areas + 1) 0 1 0 (omega arith) t a (omega arith)).1 z

pub rules_pictured : (areas : List Area) → Rules areas → Pictured areas
rules_pictured areas r =
    let n = length areas in
    let numbers = numbers_of (walk_of areas) in
    let t : numbered n 1 ≡ true = numbered_from n 1 (omega arith) (numbered_parts 64 n r.few).0 in
    let range : (i : ℕ) → numbered n i ≡ true → ((area_at areas i).child ≤ n) × ((area_at areas i).next ≤ n) = λ i t. ((r.range i t).2, (r.range i t).3) in
    let top = top_stands areas (area_at areas 1).level (r.range 1 t).0 t r.alone range r.right r.fit r.short in
    let long : n ≤ length numbers = length_covers n numbers (λ i t. omega (arith, r.once i t)) in
    record {
      level = (area_at areas 1).level;
      tree = top.0;
      numbers = numbers;
      stands = top.1;
      alone = r.alone;
      all = omega (arith, long, r.short, length-map (walk_of areas) (λ p. p.area));
      once = r.once;
      high = (r.high, (r.range 1 t).1);
      slots = subst (λ s. s ≤ 1024) (sym (sum_by_map (λ i. (area_at areas i).slots) (λ p. p.area) (walk_of areas))) r.total;
    }
