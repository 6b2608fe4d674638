-- The picture of a tree keeps the rules of a plan.
use Rattle.std.proofs.Common.{◌≡◌, ℕ, suc, ◌+◌, ◌-◌, ◌<◌, ◌≤◌, true, List, [], ◌∷◌, ◌++◌, length, sum_by, sym, refl, ap, ◌∙◌, subst, arith}
use Rattle.std.specs.List.{AllByRecursion}
use Rattle.std.proofs.lemmas.List.{append-nil, length-append, map-append, length-map}
use Rattle.std.proofs.ByRecursion.{All-append}
use Rattle.std.proofs.lemmas.Bool.{and_from, le-leb, eq-eqb, ne_eqb, cond-true, cond-false}
use Rattle.chain.specs.Chain.{numbered}
use Rattle.chain.proofs.Chains.{numbered_parts}
use Rattle.plan.specs.declared.area.Area.{Area}
use Rattle.plan.specs.declared.area.Place.{Place}
use Rattle.plan.specs.Walk.{area_at, along, walk_from, walk_of, slots_in}
use Rattle.plan.specs.Tree.{fits}
use Rattle.plan.specs.Reading.{slots_right}
use Rattle.plan.specs.Trees.{Tree, Row, Stands, Chained, Pictured}
use Rattle.plan.specs.Trees.Row.{last}
use Rattle.plan.specs.Trees.Stands.{as_lowest, as_region}
use Rattle.plan.specs.Trees.Chained.{ends, goes_on}
use Rattle.plan.proofs.Counts.{numbers_of, times, sum_by_map, all_times}
use Rattle.plan.proofs.Rules.{Rules}
use Rattle.plan.proofs.Pictures.{stands_numbered, stands_level, chained_numbered}
use Rattle.plan.proofs.Walks.{along_end, along_more, walk_none, walk_level}

-- record i keeps the rules that are of it alone
record Right (areas : List Area) (i : ℕ) : Type 0 where
  level : (1 ≤ (area_at areas i).level) × ((area_at areas i).level ≤ 4)
  child : (area_at areas i).child ≤ length areas
  next : (area_at areas i).next ≤ length areas
  slots : slots_right (area_at areas i) ≡ true

-- a row has a level, so an area over one is not lowest
chained_level : {areas : List Area} {l : ℕ} {row : Row l} {i : ℕ} {numbers : List ℕ} → Chained areas l row i numbers → 1 ≤ l
chained_level (ends i tree end) = (stands_level tree).1
chained_level (goes_on i tree row) = (stands_level tree).1

mutual
  stands_right : {areas : List Area} {l : ℕ} {tree : Tree l} {i : ℕ} {numbers : List ℕ} → Stands areas l tree i numbers → l ≤ 4 → (area_at areas i).next ≤ length areas → AllByRecursion (Right areas) numbers
  stands_right {areas} (as_lowest i t level child least most) high next =
      let slots : slots_right (area_at areas i) ≡ true = cond-true _ _ _ (eq-eqb _ 1 level) ∙ and_from _ _ (le-leb 1 (area_at areas i).slots least) (le-leb (area_at areas i).slots 1024 most) in
      (record { level = omega arith; child = omega arith; next = next; slots = slots }, tt)
  stands_right {areas} (as_region {l = l} i t level slots row) high next =
      let over = chained_level row in
      let right : slots_right (area_at areas i) ≡ true = cond-false _ _ _ (ne_eqb (area_at areas i).level 1 (λ e. omega arith)) ∙ eq-eqb _ 0 slots in
      (record { level = omega arith; child = (numbered_parts (length areas) _ (chained_numbered row)).1; next = next; slots = right }, chained_right row (omega arith))

  chained_right : {areas : List Area} {l : ℕ} {row : Row l} {i : ℕ} {numbers : List ℕ} → Chained areas l row i numbers → l ≤ 4 → AllByRecursion (Right areas) numbers
  chained_right {areas} (ends i tree end) high = stands_right tree high (omega arith)
  chained_right {areas} (goes_on {numbers = numbers} {others = others} i tree row) high =
      All-append (Right areas) numbers others (stands_right tree high (numbered_parts (length areas) _ (chained_numbered row)).1) (chained_right row high)

-- the places that a walk meets are those of these numbers, in their order, and fit
abbrev Meets : List Area → List Place → List ℕ → Type 0
Meets areas ps numbers = (numbers_of ps ≡ numbers) × AllByRecursion (λ p. fits areas p ≡ true) ps

meets_append : (areas : List Area) (ps qs : List Place) (ns ms : List ℕ) → Meets areas ps ns → Meets areas qs ms → Meets areas (ps ++ qs) (ns ++ ms)
meets_append areas ps qs ns ms a b =
    (map-append (λ p. p.area) ps qs ∙ ap (λ xs. xs ++ numbers_of qs) a.0 ∙ ap (λ xs. ns ++ xs) b.0, All-append (λ p. fits areas p ≡ true) ps qs a.1 b.1)

stands_long : {areas : List Area} {l : ℕ} {tree : Tree l} {i : ℕ} {numbers : List ℕ} → Stands areas l tree i numbers → 1 ≤ length numbers
stands_long (as_lowest i t level child least most) = omega arith
stands_long (as_region i t level slots row) = omega arith

pred-suc : (l : ℕ) → suc l - 1 ≡ l
pred-suc l = omega arith

-- the walk of one tree, and then of the rest of the chain
along_meets : (areas : List Area) (l f parent i b : ℕ) (numbers others : List ℕ) → 0 < f → numbered (length areas) i ≡ true →
    ((before after c : ℕ) → Meets areas (record { area = i; level = l; parent = parent; before = before; after = after } ∷ walk_from areas (l - 1) i (area_at areas i).child c) numbers) →
    ((c : ℕ) → Meets areas (along areas (walk_from areas (l - 1)) l parent (f - 1) (area_at areas i).next c) others) →
    Meets areas (along areas (walk_from areas (l - 1)) l parent f i b) (numbers ++ others)
along_meets areas l f parent i b numbers others z t tree rest =
    let inner = walk_from areas (l - 1) i (area_at areas i).child (b + (area_at areas i).slots) in
    let b' = b + (area_at areas i).slots + slots_in areas inner in
    subst (λ ps. Meets areas ps (numbers ++ others)) (sym (along_more areas (walk_from areas (l - 1)) l parent f (f - 1) i b (omega arith) t))
    (meets_append areas (record { area = i; level = l; parent = parent; before = b; after = b' } ∷ inner) _ numbers others (tree b b' (b + (area_at areas i).slots)) (rest b'))

mutual
  stands_meets : {areas : List Area} {l : ℕ} {tree : Tree l} {i : ℕ} {numbers : List ℕ} → Stands areas l tree i numbers → length numbers ≤ length areas → (parent before after b : ℕ) →
      Meets areas (record { area = i; level = l; parent = parent; before = before; after = after } ∷ walk_from areas (l - 1) i (area_at areas i).child b) numbers
  stands_meets {areas} (as_lowest i t level child least most) short parent before after b =
      let p : Place = record { area = i; level = 1; parent = parent; before = before; after = after } in
      subst (λ ps. Meets areas (p ∷ ps) (i ∷ [])) (sym (walk_none areas 0 i (area_at areas i).child b refl)) (refl, (and_from _ _ (eq-eqb _ 1 level) (eq-eqb _ 0 child), tt))
  stands_meets {areas} (as_region {l = l} {numbers = numbers} i t level slots row) short parent before after b =
      let over = chained_level row in
      let child = (area_at areas i).child in
      let p : Place = record { area = i; level = suc l; parent = parent; before = before; after = after } in
      let down : walk_from areas (suc l - 1) i child b ≡ along areas (walk_from areas (l - 1)) l i (length areas + 1) child b = ap (λ k. walk_from areas k i child b) (pred-suc l) ∙ walk_level areas l i child b (λ z. omega arith) in
      let fit : fits areas p ≡ true = and_from _ _ (eq-eqb _ (suc l) level) (cond-false _ _ _ (ne_eqb (suc l) 1 (λ e. omega arith)) ∙ le-leb 1 child (numbered_parts (length areas) child (chained_numbered row)).0) in
      let below = chained_meets row (length areas + 1) i b (omega arith) (omega arith) in
      subst (λ ps. Meets areas (p ∷ ps) (i ∷ numbers)) (sym down) (ap (λ ns. i ∷ ns) below.0, (fit, below.1))

  chained_meets : {areas : List Area} {l : ℕ} {row : Row l} {i : ℕ} {numbers : List ℕ} → Chained areas l row i numbers → (f parent b : ℕ) → length numbers < f → f ≤ length areas + 1 →
      Meets areas (along areas (walk_from areas (l - 1)) l parent f i b) numbers
  chained_meets {areas} (ends {l = l} {numbers = numbers} i tree end) f parent b short most =
      let whole = along_meets areas l f parent i b numbers [] (omega arith) (stands_numbered tree) (stands_meets tree (omega arith) parent)
      (λ c. subst (λ ps. Meets areas ps []) (sym (along_end areas (walk_from areas (l - 1)) l parent (f - 1) (area_at areas i).next c (ap (numbered (length areas)) end))) (refl, tt)) in
      rw append-nil at whole
  chained_meets {areas} (goes_on {l = l} {numbers = numbers} {others = others} i tree row) f parent b short most =
      let long = stands_long tree in
      let both = length-append numbers others in
      along_meets areas l f parent i b numbers others (omega arith) (stands_numbered tree) (stands_meets tree (omega arith) parent)
      (λ c. chained_meets row (f - 1) parent c (omega arith) (omega arith))

pub pictured_rules : (areas : List Area) → numbered 64 (length areas) ≡ true → Pictured areas → Rules areas
pictured_rules areas few c =
    let n = length areas in
    let numbers = c.numbers in
    let top : Chained areas c.level (last c.tree) 1 numbers = ends 1 c.stands c.alone in
    let level = stands_level c.stands in
    let e : walk_of areas ≡ along areas (walk_from areas (c.level - 1)) c.level 0 (n + 1) 1 0 = ap (λ l. walk_from areas l 0 1 0) level.0 ∙ walk_level areas c.level 0 1 0 (λ z. omega (arith, level.1)) in
    let walk : Meets areas (walk_of areas) numbers = subst (λ ps. Meets areas ps numbers) (sym e) (chained_meets top (n + 1) 0 0 (omega (arith, c.all)) (omega arith)) in
    let rights = chained_right top c.high.1 in
    let right : (i : ℕ) → numbered n i ≡ true → Right areas i = λ i t. all_times (Right areas) numbers i rights (omega (arith, c.once i t)) in
    record {
      few = few;
      high = omega (arith, level.0, c.high.0);
      range = λ i t. let r = right i t in (r.level.0, r.level.1, r.child, r.next);
      alone = c.alone;
      short = omega (arith, sym (length-map (walk_of areas) (λ p. p.area)) ∙ ap length walk.0, c.all);
      fit = walk.1;
      once = λ i t. ap (times i) walk.0 ∙ c.once i t;
      right = λ i t. (right i t).slots;
      total = subst (λ s. s ≤ 1024) (sym (ap (sum_by (λ i. (area_at areas i).slots)) walk.0) ∙ sum_by_map (λ i. (area_at areas i).slots) (λ p. p.area) (walk_of areas)) c.slots;
    }
