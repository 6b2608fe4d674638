-- A plan's laws, read off the tables of its layout.
use Rattle.std.proofs.Common.{◌≡◌, ℕ, zero, suc, ◌+◌, ◌-◌, ◌<◌, ◌≤◌, true, false, List, length, get_or, sym, ap, ◌∙◌, subst, inl, inr, arith}
use Rattle.std.proofs.Math.Path.{fun_ext}
use Rattle.std.proofs.lemmas.List.FromFn.{length-map-range_with_len}
use Rattle.std.proofs.lemmas.List.{get_or_past}
use Rattle.std.proofs.lemmas.Bool.Decides.{nat_tests}
use Rattle.std.proofs.lemmas.Bool.{cases_Bool, cases_lt, cases_eq}
use Rattle.chain.specs.Chain.{place, numbered}
use Rattle.chain.proofs.Chains.{numbered_parts, numbered_from}
use Rattle.plan.specs.declared.area.Area.{Area}
use Rattle.plan.specs.declared.area.Place.{Place}
use Rattle.plan.specs.Laws.{TreeLaws}
use Rattle.plan.specs.Plans as plans
use Rattle.plan.specs.Plans.{is_plan, place_of, places_of, slots_of, home_of, is_lowest, top_level, parent_of, climb, meet_from, area_over, common_level}
use Rattle.plan.specs.Tree.{nowhere}
use Rattle.plan.specs.Walk.{area_at, walk_of}
use Rattle.plan.proofs.Asked.{length_homes, place_read, no_parent, place_within_plan, climb_none}
use Rattle.plan.proofs.Climbs.{top_parent}
use Rattle.plan.proofs.Rules.{plan_rules}
use Rattle.plan.proofs.TreeLaws.{tree_laws}
use Rattle.state.specs.Layout.{Layout, layout_of, slot_count, lowest, first_in, last_of, within, home, above, level_of}
use Rattle.state.specs.Lawful.{Lawful, Together, LayoutsAreLawful}

module _ (areas : List Area) (plan : is_plan areas ≡ true) where
  abbrev L : Layout
  L = layout_of areas

  laws : TreeLaws areas
  laws = tree_laws areas plan

  abbrev tabled : ℕ → ℕ
  tabled x = (get_or (places_of areas) (place x) nowhere).parent

  one : numbered (length areas) 1 ≡ true
  one = numbered_from (length areas) 1 (omega arith) (numbered_parts 64 _ (plan_rules areas plan).few).0

  same_parent : (x : ℕ) → tabled x ≡ parent_of areas x
  same_parent x = elim (cases_Bool (numbered (length areas) x)) [
    | inl t ↦ ap (λ (q : Place). q.parent) (place_read areas x nowhere t)
    | inr f ↦ elim (cases_eq x 0) [
      | inl z ↦
          let at_one : tabled 0 ≡ 0 = ap (λ (q : Place). q.parent) (place_read areas 1 nowhere one) ∙ top_parent areas plan in
          ap tabled z ∙ at_one ∙ sym (no_parent areas x f)
      | inr nz ↦
          let long : length (places_of areas) ≡ length areas = length-map-range_with_len (place_of areas) 1 (length areas) in
          let out : length areas < x = outside x f nz in
          ap (λ (q : Place). q.parent) (get_or_past (places_of areas) (place x) nowhere (omega (arith, long, out))) ∙ sym (no_parent areas x f)
    ]
  ]
    where
      outside : (x : ℕ) → numbered (length areas) x ≡ false → (x ≡ 0 → ⊥) → length areas < x
      outside x f nz = grind (arith, nat_tests)

  same_above : (a l : ℕ) → above L a l ≡ area_over areas l a
  same_above a l = ap (λ f. climb f (l - 1) a) (fun_ext same_parent)

  same_level : (p b : ℕ) → level_of L p b ≡ common_level areas (home_of areas p) (home_of areas b)
  same_level p b = ap (λ f. meet_from f (top_level areas - 1) 1 (home_of areas p) (home_of areas b)) (fun_ext same_parent)

  same_count : slot_count L ≡ plans.slot_count areas
  same_count = length_homes areas (walk_of areas)

  slot_numbered : (b : ℕ) → numbered (slot_count L) b ≡ true → numbered (plans.slot_count areas) b ≡ true
  slot_numbered b t = subst (λ n. numbered n b ≡ true) same_count t

  module _ (x : ℕ) (t : numbered (length areas) x ≡ true) where
    same_first : first_in L x ≡ (slots_of areas x).first
    same_first = ap (λ (q : Place). q.before + 1) (place_read areas x nowhere t)

    same_last : last_of L x ≡ (slots_of areas x).last
    same_last = ap (λ (q : Place). q.after) (place_read areas x nowhere t)

    within_from : (b : ℕ) → (slots_of areas x).first ≤ b → b ≤ (slots_of areas x).last → within L x b ≡ true
    within_from b l m = grind (arith, nat_tests, same_first, same_last)

    within_parts : (b : ℕ) → within L x b ≡ true → ((slots_of areas x).first ≤ b) × (b ≤ (slots_of areas x).last)
    within_parts b e = grind (arith, nat_tests, same_first, same_last)

  low_numbered : (a : ℕ) → is_lowest areas a ≡ true → numbered (length areas) a ≡ true
  low_numbered a low = grind (arith, nat_tests)

  low_level : (a : ℕ) → is_lowest areas a ≡ true → (area_at areas a).level ≡ 1
  low_level a low = grind (arith, nat_tests)

  some_slots : (a : ℕ) → is_lowest areas a ≡ true → 1 ≤ (area_at areas a).slots
  some_slots a low = let tests = (plan_rules areas plan).right a (low_numbered a low) in grind (arith, nat_tests)

  slots_of_low : (a : ℕ) → lowest L a ≡ true → (1 ≤ first_in L a) × (first_in L a ≤ last_of L a) × (last_of L a ≤ slot_count L)
  slots_of_low a low =
      let t = low_numbered a low in
      let f = same_first a t in
      let l = same_last a t in
      let own = laws.own a low in
      let w = place_within_plan areas a in
      (omega (arith, f), omega (arith, f, l, own, some_slots a low), omega (arith, l, w.2, same_count))

  at_home : (b : ℕ) → numbered (slot_count L) b ≡ true → (lowest L (home L b) ≡ true) × (within L (home L b) b ≡ true)
  at_home b n =
      let h = laws.home b (slot_numbered b n) in
      (h.0, within_from (home_of areas b) (low_numbered _ h.0) b h.1.0 h.1.1)

  slot_of_low : (a b : ℕ) → lowest L a ≡ true → within L a b ≡ true → numbered (slot_count L) b ≡ true
  slot_of_low a b low w = let s = slots_of_low a low in grind (arith, nat_tests)

  only_home : (a b : ℕ) → lowest L a ≡ true → within L a b ≡ true → home L b ≡ a
  only_home a b low w =
      let t = low_numbered a low in
      let c = (laws.contains a b t (slot_numbered b (slot_of_low a b low w))).0 (within_parts a t b w) in
      sym (climb_none areas (home_of areas b)) ∙ ap (λ l. area_over areas l (home_of areas b)) (sym (low_level a low)) ∙ c

  nested : (a b l k : ℕ) → 1 ≤ l → area_over areas l a ≡ area_over areas l b → area_over areas (l + k) a ≡ area_over areas (l + k) b
  nested a b l zero i e = let z : l + 0 ≡ l = omega arith in rw z e
  nested a b l (suc k) i e =
      let z : l + suc k ≡ l + k + 1 = omega arith in
      rw z (laws.nested a b (l + k) (omega arith) (nested a b l k i e))

  together_from : (l a b : ℕ) → area_over areas l a ≡ area_over areas l b → Together L l a b
  together_from l a b e = same_above a l ∙ e ∙ sym (same_above b l)

  over_from : (l a b : ℕ) → Together L l a b → area_over areas l a ≡ area_over areas l b
  over_from l a b e = sym (same_above a l) ∙ e ∙ same_above b l

  level_lowest : (p b l : ℕ) → numbered (slot_count L) p ≡ true → numbered (slot_count L) b ≡ true → 1 ≤ l → Together L l (home L p) (home L b) → level_of L p b ≤ l
  level_lowest p b l np nb i e = elim (cases_lt l (level_of L p b)) [
    | inl m ↦ absurd (laws.apart_below (home_of areas p) (home_of areas b) l (at_home p np).0 (at_home b nb).0 i (subst (λ n. l < n) (same_level p b) m) (over_from l _ _ e))
    | inr m ↦ m
  ]

  lawful : Lawful L
  lawful = record {
    high = ((plan_rules areas plan).high, ((plan_rules areas plan).range 1 one).1);
    slots_inside = slots_of_low;
    at_home = at_home;
    only_home = only_home;
    above_area = λ a l low i h. let o = laws.over a l low i h in (rw (same_above a l) o.0, rw (same_above a l) o.1);
    above_within = λ x b t n.
        let c = laws.contains x b t (slot_numbered b n) in (
          (λ w. same_above _ _ ∙ c.0 (within_parts x t b w)),
          (λ e. let q = c.1 (sym (same_above (home_of areas b) (area_at areas x).level) ∙ e) in within_from x t b q.0 q.1),
        );
    above_one = λ a. same_above a 1 ∙ climb_none areas a;
    nested = λ a b l m i h e.
        let k : l + (m - l) ≡ m = omega arith in
        together_from m a b (subst (λ n. area_over areas n a ≡ area_over areas n b) k (nested a b l (m - l) i (over_from l a b e)));
    top_together = λ a b la lb. together_from (top_level areas) a b (laws.top a la ∙ sym (laws.top b lb));
    level_within = λ p b np nb.
        let c = laws.common (home_of areas p) (home_of areas b) (at_home p np).0 (at_home b nb).0 in
        let e = sym (same_level p b) in (
          subst (λ n. 1 ≤ n) e c.0,
          subst (λ n. n ≤ top_level areas) e c.1,
          subst (λ n. Together L n (home_of areas p) (home_of areas b)) e (together_from _ _ _ c.2),
        );
    level_lowest = level_lowest;
  }

pub layouts_are_lawful : LayoutsAreLawful
layouts_are_lawful areas plan = lawful areas plan
