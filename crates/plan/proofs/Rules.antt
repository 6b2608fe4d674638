-- The rules of a plan, one fact for each.
use Rattle.std.proofs.Common.{◌≡◌, ℕ, ◌≤◌, true, cond, eqb, leb, List, length, is_some, Ok, sym, ap, ◌∙◌, subst, ⊎_elim, arith}
use Rattle.std.specs.List.{range_with_len, AllByRecursion}
use Rattle.std.proofs.lemmas.Bool.{cases_eq, and_parts, and_from, leb-true, le-leb, eqb-true, eq-eqb, ne_eqb, cond-true}
use Rattle.chain.specs.Chain.{numbered}
use Rattle.chain.proofs.Chains.{numbered_from, numbered_parts}
use Rattle.plan.specs.declared.area.Area.{Area}
use Rattle.plan.specs.Walk.{area_at, walk_of}
use Rattle.plan.specs.Tree.{every, fits, only_place, well_placed, is_tree}
use Rattle.plan.specs.Reading.{area_in_range, slots_right, slots_checked, check_tree}
use Rattle.plan.specs.Plans.{is_plan, slot_count}
use Rattle.plan.proofs.Tests.{each_number, number_each, all_from_test, test_from_all}
use Rattle.plan.proofs.Firsts.{none_from_every}
use Rattle.plan.proofs.Counts.{numbers_of, times, only_times}

pub record Rules (areas : List Area) : Type 0 where
  pub few : numbered 64 (length areas) ≡ true
  pub high : 2 ≤ (area_at areas 1).level
  pub range : (i : ℕ) → numbered (length areas) i ≡ true → (1 ≤ (area_at areas i).level) × ((area_at areas i).level ≤ 4) × ((area_at areas i).child ≤ length areas) × ((area_at areas i).next ≤ length areas)
  pub alone : (area_at areas 1).next ≡ 0
  pub short : length (walk_of areas) ≤ length areas
  pub fit : AllByRecursion (λ p. fits areas p ≡ true) (walk_of areas)
  pub once : (i : ℕ) → numbered (length areas) i ≡ true → times i (numbers_of (walk_of areas)) ≡ 1
  pub right : (i : ℕ) → numbered (length areas) i ≡ true → slots_right (area_at areas i) ≡ true
  pub total : slot_count areas ≤ 1024

-- the least level of record i
least_level : (i : ℕ) → 1 ≤ cond (eqb i 1) 2 1
least_level i = ⊎_elim (λ (e : i ≡ 1). rw (eq-eqb i 1 e) (omega arith)) (λ (ne : i ≡ 1 → ⊥). rw (ne_eqb i 1 ne) (omega arith)) (cases_eq i 1)

range_parts : (n i : ℕ) (a : Area) → area_in_range n i a ≡ true → (cond (eqb i 1) 2 1 ≤ a.level) × (a.level ≤ 4) × (a.child ≤ n) × (a.next ≤ n)
range_parts n i a e =
    let p = and_parts (leb (cond (eqb i 1) 2 1) a.level) _ e in
    let q = and_parts (leb a.level 4) _ p.1 in
    let s = and_parts (leb a.child n) (leb a.next n) q.1 in
    (leb-true _ _ p.0, leb-true _ _ q.0, leb-true _ _ s.0, leb-true _ _ s.1)

pub plan_rules : (areas : List Area) → is_plan areas ≡ true → Rules areas
unfolding is_plan is_tree
plan_rules areas plan =
    let n = length areas in
    let p = and_parts (numbered 64 n) _ plan in
    let q = and_parts (every (λ i. area_in_range n i (area_at areas i)) (range_with_len 1 n)) _ p.1 in
    let r = and_parts (is_tree areas) _ q.1 in
    let s = and_parts (every (λ i. slots_right (area_at areas i)) (range_with_len 1 n)) _ r.1 in
    let tree = and_parts (well_placed areas) _ r.0 in
    let top = and_parts (eqb (area_at areas 1).next 0) _ tree.0 in
    let walk = and_parts (leb (length (walk_of areas)) n) _ top.1 in
    let inside = λ (i : ℕ) (t : numbered n i ≡ true). range_parts n i (area_at areas i) (each_number (λ i. area_in_range n i (area_at areas i)) n q.0 i t) in
    record {
      few = p.0;
      high = (inside 1 (numbered_from n 1 (omega arith) (numbered_parts 64 n p.0).0)).0;
      range = λ i t. let h = inside i t in (omega (arith, h.0, least_level i), h.1, h.2, h.3);
      alone = eqb-true _ 0 top.0;
      short = leb-true _ _ walk.0;
      fit = all_from_test (fits areas) (walk_of areas) walk.1;
      once = λ i t. eqb-true _ 1 (sym (only_times (walk_of areas) i) ∙ each_number (λ i. is_some (only_place (walk_of areas) i)) n tree.1 i t);
      right = each_number (λ i. slots_right (area_at areas i)) n s.0;
      total = leb-true _ _ s.1;
    }

module _ (areas : List Area) (rules : Rules areas) where
  -- the walk meets each area at one place
  pub met_once : (i : ℕ) → numbered (length areas) i ≡ true → is_some (only_place (walk_of areas) i) ≡ true
  met_once i t = only_times (walk_of areas) i ∙ eq-eqb _ 1 (rules.once i t)

  pub rules_range : (i : ℕ) → numbered (length areas) i ≡ true → area_in_range (length areas) i (area_at areas i) ≡ true
  rules_range i t =
      let a = area_at areas i in
      let r = rules.range i t in
      let least : cond (eqb i 1) 2 1 ≤ a.level = ⊎_elim (λ (e : i ≡ 1). rw (eq-eqb i 1 e) (subst (λ j. 2 ≤ (area_at areas j).level) (sym e) rules.high)) (λ (ne : i ≡ 1 → ⊥). rw (ne_eqb i 1 ne) r.0) (cases_eq i 1) in
      and_from _ _ (le-leb _ _ least) (and_from _ _ (le-leb _ _ r.1) (and_from _ _ (le-leb _ _ r.2) (le-leb _ _ r.3)))

  rules_tree : is_tree areas ≡ true
  unfolding is_tree
  rules_tree =
      let walked = and_from _ _ (le-leb _ _ rules.short) (test_from_all (fits areas) (walk_of areas) rules.fit) in
      and_from _ _ (and_from _ _ (eq-eqb _ 0 rules.alone) walked)
      (number_each (λ i. is_some (only_place (walk_of areas) i)) (length areas) met_once)

  pub rules_read : check_tree areas ≡ Ok areas
  rules_read =
      cond-true _ _ _ rules_tree
      ∙ ap (slots_checked areas) (none_from_every (λ i. slots_right (area_at areas i)) 1 (length areas) (number_each (λ i. slots_right (area_at areas i)) (length areas) rules.right))
      ∙ cond-true _ _ _ (le-leb _ _ rules.total)
