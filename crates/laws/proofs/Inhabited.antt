-- In every area of an accepted plan there is a lowest area, and no level is above the top.
use Rattle.std.proofs.Common.{◌≡◌, ℕ, zero, suc, ◌+◌, ◌-◌, ◌<◌, ◌≤◌, true, eqb, leb, List, [], ◌∷◌, map, length, sym, refl, ap, ◌∙◌, subst, arith}
use Rattle.std.proofs.ByRecursion.{all-has}
use Rattle.std.proofs.lemmas.List.{length-map}
use Rattle.std.proofs.lemmas.Bool.{and_parts, and_from, eq-eqb, ne_eqb, leb-true, le-leb, cond-true, cond-false}
use Rattle.chain.specs.Chain.{Chain, numbered, among}
use Rattle.plan.specs.declared.area.Area.{Area}
use Rattle.plan.specs.declared.area.Place.{Place}
use Rattle.plan.specs.Laws.{Under}
use Rattle.plan.specs.Plans.{is_plan, place_of, parent_of, is_lowest, climb}
use Rattle.plan.specs.Tree.{fits, nowhere}
use Rattle.plan.specs.Walk.{area_at, walk_of}
use Rattle.plan.proofs.Asked.{length_homes, place_read}
use Rattle.plan.proofs.Climbs.{lowest_from}
use Rattle.plan.proofs.Found.{place_met, place_area, place_level, level_within}
use Rattle.plan.proofs.Rules.{plan_rules}
use Rattle.plan.proofs.TreeLaws.{tree_laws}
use Rattle.state.specs.Layout.{layout_of, lowest, first_in, last_of, above, Layout, top}
use Rattle.state.proofs.Lawful.{layouts_are_lawful}
use Rattle.laws.proofs.Plans.{within_numbered}

-- What the bounds use of a plan besides its laws: no level is above the top, and every area has a lowest area in it.
pub record Inhabited (plan : Layout) : Type 0 where
  pub below_top : (x : ℕ) → numbered (length plan.areas) x ≡ true → (area_at plan.areas x).level ≤ top plan
  pub a_lowest : (x : ℕ) → numbered (length plan.areas) x ≡ true → (e : ℕ) × ((lowest plan e ≡ true) × (above plan e (area_at plan.areas x).level ≡ x))

module _ (areas : List Area) (plan : is_plan areas ≡ true) where
  -- an area that is not lowest has a child
  has_child : (x : ℕ) → numbered (length areas) x ≡ true → 1 < (area_at areas x).level → 1 ≤ (area_at areas x).child
  has_child x t high =
      let q = place_of areas x in
      let fit = all-has (λ p. fits areas p ≡ true) (walk_of areas) q (plan_rules areas plan).fit (place_met areas plan x t) in
      let test = (and_parts (eqb (area_at areas q.area).level q.level) _ fit).1 in
      let level = place_level areas plan x t in
      let child = leb-true 1 _ (sym (cond-false (eqb q.level 1) _ _ (ne_eqb q.level 1 (λ one. omega (arith, one, level, high)))) ∙ test) in
      subst (λ i. 1 ≤ (area_at areas i).child) (place_area areas plan x t) child

  -- the first area under x
  first_child : (x : ℕ) → numbered (length areas) x ≡ true → 1 < (area_at areas x).level → (i : ℕ) × (numbered (length areas) i ≡ true) × ((area_at areas i).level + 1 ≡ (area_at areas x).level) × (parent_of areas i ≡ x)
  first_child x t high = by_children u.children u.chain u.levels u.parents
    where
      u : Under areas x
      u = (tree_laws areas plan).under x t high

      by_children : (is : List ℕ) → Chain (map (λ a. a.next) areas) (area_at areas x).child is → ((i : ℕ) → among i is ≡ true → (area_at areas i).level + 1 ≡ (area_at areas x).level) →
          ((i : ℕ) → among i is ≡ true → parent_of areas i ≡ x) → (i : ℕ) × (numbered (length areas) i ≡ true) × ((area_at areas i).level + 1 ≡ (area_at areas x).level) × (parent_of areas i ≡ x)
      by_children [] chain levels parents = absurd (let some = has_child x t high in omega (arith, some, chain))
      by_children (i ∷ is) chain levels parents =
          let first = cond-true (eqb i i) true (among i is) (eq-eqb i i refl) in
          (i, (rw length-map at chain.1), levels i first, parents i first)

  -- from an area down to a lowest area in it
  lowest_in : (l x : ℕ) → numbered (length areas) x ≡ true → (area_at areas x).level ≡ l + 1 → (a : ℕ) × (is_lowest areas a ≡ true) × (climb (parent_of areas) l a ≡ x)
  unfolding climb
  lowest_in zero x t e = (x, lowest_from areas plan x t (omega arith), refl)
  lowest_in (suc l) x t e =
      let c = first_child x t (omega (arith, e)) in
      let r = lowest_in l c.0 c.1 (omega (arith, c.2, e)) in
      (r.0, r.1, ap (parent_of areas) r.2 ∙ c.3)

  a_lowest : (x : ℕ) → numbered (length areas) x ≡ true → (e : ℕ) × ((lowest (layout_of areas) e ≡ true) × (above (layout_of areas) e (area_at areas x).level ≡ x))
  a_lowest x t =
      let law = layouts_are_lawful areas plan in
      let levels = level_within areas plan x t in
      let (a, low, up) = lowest_in ((area_at areas x).level - 1) x t (omega (arith, levels.0)) in
      let b = first_in (layout_of areas) a in
      let slots = law.slots_inside a low in
      let here = and_from (leb b b) (leb b (last_of (layout_of areas) a)) (le-leb b b (omega arith)) (le-leb _ _ slots.1) in
      let at = law.only_home a b low here in
      let n = within_numbered (layout_of areas) law a b low here in
      let inside = ((tree_laws areas plan).contains x b t (subst (λ k. numbered k b ≡ true) (length_homes areas (walk_of areas)) n)).1 (ap (climb (parent_of areas) ((area_at areas x).level - 1)) at ∙ up) in
      let place_is = place_read areas x nowhere t in
      let held = and_from (leb (first_in (layout_of areas) x) b) (leb b (last_of (layout_of areas) x))
      (le-leb _ _ (subst (λ (q : Place). q.before + 1 ≤ b) (sym place_is) inside.0)) (le-leb _ _ (subst (λ (q : Place). b ≤ q.after) (sym place_is) inside.1)) in
      (a, (low, subst (λ e. above (layout_of areas) e (area_at areas x).level ≡ x) at ((law.above_within x b t n).0 held)))

pub layouts_are_inhabited : (areas : List Area) → is_plan areas ≡ true → Inhabited (layout_of areas)
layouts_are_inhabited areas plan = record { below_top = λ x t. (level_within areas plan x t).1; a_lowest = a_lowest areas plan }
