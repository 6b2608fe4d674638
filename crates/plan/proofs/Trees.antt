-- A plan is accepted exactly if its records are the picture of a tree.
use Rattle.std.proofs.Common.{◌≡◌, ℕ, ◌+◌, ◌/◌, ◌%◌, ◌<◌, true, false, List, length, get_or, None, Ok, Err, Result, sym, ap, ◌∙◌, subst, ⊎_elim, arith, ext_get_or}
use Rattle.std.proofs.lemmas.Bool.{cases_Bool, and_parts, and_from, eqb-true, eq-eqb, le-leb, cond-true, cond-false}
use Rattle.std.proofs.lemmas.List.FromFn.{length-map-range_with_len, get_or-map-range_with_len}
use Rattle.chain.specs.Chain.{numbered, place}
use Rattle.chain.proofs.Chains.{numbered_from, numbered_parts}
use Rattle.plan.specs.declared.area.Area.{Area}
use Rattle.plan.specs.declared.refusal.Refusal.{Refusal}
use Rattle.plan.specs.declared.refusal.Refusal.TheVariants.{Length}
use Rattle.plan.specs.Reading.{area_of, areas_of, area_in_range, record_in_range, first_wrong, records_read, read_records, good_length, check_tree, and_then, read_plan}
use Rattle.plan.specs.Plans.{tables_if, places_of, homes_of}
use Rattle.plan.specs.Trees.{Written, AcceptedExactlyTrees}
use Rattle.plan.proofs.Firsts.{none_from_every}
use Rattle.plan.proofs.Tests.{number_each}
use Rattle.plan.proofs.Parts.{due_refused, due_read, count_told, few_told, field_told, right_told, range_told, tree_read, plan_sound}
use Rattle.plan.proofs.Rules.{Rules, plan_rules, rules_range, rules_read}
use Rattle.plan.proofs.Pictures.{rules_pictured}
use Rattle.plan.proofs.Pictured.{pictured_rules}

-- what a check accepts is what it was given
tree_kept : (given areas : List Area) → check_tree given ≡ Ok areas → given ≡ areas
tree_kept given areas h =
    let e : Ok given ≡ Ok areas = sym (tree_read given (places_of given, homes_of given) (ap (tables_if given) h)) ∙ h in
    cc

module _ (bytes : List ℕ) (areas : List Area) where
  good_length_lem : read_plan bytes ≡ Ok areas → good_length (length bytes) ≡ true
  good_length_lem h =
      ⊎_elim (λ (e : good_length (length bytes) ≡ true). e) (λ (e : good_length (length bytes) ≡ false). absurd (let w = due_refused bytes Length (cond-false _ _ _ e) in grind (arith, h, w))) (cases_Bool (good_length (length bytes)))

  -- both parts of the reading accept
  read_steps : good_length (length bytes) ≡ true → read_plan bytes ≡ Ok areas → (read_records bytes (length bytes / 6) ≡ Ok areas) × (check_tree areas ≡ Ok areas)
  unfolding read_plan
  read_steps good h = from (read_records bytes (length bytes / 6)) (sym (cond-true _ _ _ good) ∙ h)
    where
      from : (r : Result (List Area) Refusal) → and_then r check_tree ≡ Ok areas → (r ≡ Ok areas) × (check_tree areas ≡ Ok areas)
      from (Ok given) e = let k = tree_kept given areas e in (ap (λ a. Ok a) k, subst (λ a. check_tree a ≡ Ok areas) k e)
      from (Err e) e' = absurd (grind (arith, e'))

  read_written : good_length (length bytes) ≡ true → read_records bytes (length bytes / 6) ≡ Ok areas → Written bytes areas
  read_written good read =
      let count = count_told bytes good areas read in
      let whole : length bytes % 6 ≡ 0 = eqb-true _ 0 (and_parts _ _ good).0 in
      record {
        few = few_told bytes good areas read;
        long = omega (arith, count, whole);
        fields = λ i t. sym (field_told bytes good areas read i t);
        zeros = λ i t. eqb-true _ 0 (and_parts _ _ (right_told bytes good areas read i t)).0;
      }

  module _ (w : Written bytes areas) where
    written_areas : areas_of bytes (length areas) ≡ areas
    written_areas =
        let n = length areas in
        let d : Area = record { level = 0; child = 0; next = 0; slots = 0 } in
        ext_get_or d (areas_of bytes n) areas (length-map-range_with_len (area_of bytes) 1 n) (λ k l.
        let inside : k < n = omega (arith, length-map-range_with_len (area_of bytes) 1 n) in
        let here : place (k + 1) ≡ k = omega arith in
        get_or-map-range_with_len (area_of bytes) 1 n k (k + 1) d inside (omega arith) ∙ w.fields (k + 1) (numbered_from n (k + 1) (omega arith) (omega arith)) ∙ ap (λ j. get_or areas j d) here)

    written_read : Rules areas → read_plan bytes ≡ Ok areas
    written_read rules =
        let n = length areas in
        let few = numbered_parts 64 n w.few in
        let count : length bytes / 6 ≡ n = omega (arith, w.long) in
        let good : good_length (length bytes) ≡ true =
        and_from _ _ (eq-eqb _ 0 (omega (arith, w.long))) (and_from _ _ (le-leb 6 (length bytes) (omega (arith, w.long, few))) (le-leb (length bytes) 384 (omega (arith, w.long, few))))
        in
        let range : (i : ℕ) → numbered n i ≡ true → record_in_range bytes n i ≡ true =
        λ i t. and_from _ _ (eq-eqb _ 0 (w.zeros i t)) (subst (λ a. area_in_range n i a ≡ true) (sym (w.fields i t)) (rules_range areas rules i t))
        in
        let none : first_wrong (record_in_range bytes n) 1 n ≡ None = none_from_every (record_in_range bytes n) 1 n (number_each (record_in_range bytes n) n range) in
        let read : read_records bytes (length bytes / 6) ≡ Ok areas = ap (read_records bytes) count ∙ ap (records_read bytes n) none ∙ ap (λ a. Ok a) written_areas in
        due_read bytes areas (cond-true _ _ _ good ∙ read) ∙ rules_read areas rules

pub accepted_exactly_trees : (bytes : List ℕ) → AcceptedExactlyTrees bytes
accepted_exactly_trees bytes = (
  λ areas h.
      let good = good_length_lem bytes areas h in
      let s = read_steps bytes areas good h in
      let plan = plan_sound areas _ (ap (tables_if areas) s.1) (few_told bytes good areas s.0) (range_told bytes good areas s.0) in
      (read_written bytes areas good s.0, rules_pictured areas (plan_rules areas plan)),
  λ areas w c. written_read bytes areas w (pictured_rules areas w.few c),
)
