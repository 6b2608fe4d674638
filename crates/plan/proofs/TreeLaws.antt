-- The laws of an accepted plan.
use Rattle.std.proofs.Common.{◌≡◌, ℕ, zero, suc, ◌+◌, ◌-◌, ◌<◌, ◌≤◌, true, eqb, List, length, sym, refl, ap, ◌∙◌, subst, ⊎_elim, arith}
use Rattle.std.proofs.lemmas.Bool.{cond_both, eqb-true, eqb-false, cases_eq}
use Rattle.chain.specs.Chain.{numbered}
use Rattle.chain.proofs.Chains.{numbered_parts}
use Rattle.plan.specs.declared.area.Area.{Area}
use Rattle.plan.specs.Walk.{area_at}
use Rattle.plan.specs.Plans.{is_plan, top_level, slot_count, is_lowest, home_of, parent_of, climb, area_over, meet_from, common_level}
use Rattle.plan.specs.Laws.{Contains, TreeLaws}
use Rattle.plan.proofs.Found.{top_numbered, level_within}
use Rattle.plan.proofs.Rows.{under}
use Rattle.plan.proofs.Climbs.{own_slots, own_home, lowest_at, climbed, top_high, top_place_lem, top_only}

-- the lowest level at which two areas are together
module _ (areas : List Area) where
  meet_within : (k l x y : ℕ) → (l ≤ meet_from (parent_of areas) k l x y) × (meet_from (parent_of areas) k l x y ≤ l + k)
  unfolding meet_from
  meet_within zero l x y = omega arith
  meet_within (suc k) l x y =
      cond_both (eqb x y) _ _ (λ r. (l ≤ r) × (r ≤ l + suc k)) (λ _. omega arith) (λ _. omega (arith, meet_within k (l + 1) (parent_of areas x) (parent_of areas y)))

  module _ (a b : ℕ) where
    meet_together : (k m l : ℕ) → l ≡ m + 1 → climb (parent_of areas) (m + k) a ≡ climb (parent_of areas) (m + k) b → area_over areas (meet_from (parent_of areas) k l (climb (parent_of areas) m a) (climb (parent_of areas) m b)) a ≡ area_over areas (meet_from (parent_of areas) k l (climb (parent_of areas) m a) (climb (parent_of areas) m b)) b
    unfolding meet_from climb
    meet_together zero m l e h =
        let at : m + 0 ≡ l - 1 = omega arith in subst (λ n. climb (parent_of areas) n a ≡ climb (parent_of areas) n b) at h
    meet_together (suc k) m l e h =
        let at : m ≡ l - 1 = omega arith in
        let far : m + suc k ≡ suc m + k = omega arith in
        cond_both (eqb (climb (parent_of areas) m a) (climb (parent_of areas) m b)) _ _ (λ r. area_over areas r a ≡ area_over areas r b)
        (λ t. subst (λ n. climb (parent_of areas) n a ≡ climb (parent_of areas) n b) at (eqb-true _ _ t))
        (λ _. meet_together k (suc m) (l + 1) (omega arith) (subst (λ n. climb (parent_of areas) n a ≡ climb (parent_of areas) n b) far h))

    meet_apart : (k m l level : ℕ) → l ≡ m + 1 → l ≤ level → level < meet_from (parent_of areas) k l (climb (parent_of areas) m a) (climb (parent_of areas) m b) → area_over areas level a ≡ area_over areas level b → ⊥
    unfolding meet_from climb
    meet_apart zero m l level e f g h = omega arith
    meet_apart (suc k) m l level e f g h =
        cond_both (eqb (climb (parent_of areas) m a) (climb (parent_of areas) m b)) _ _ (λ r. level < r → ⊥)
        (λ _ s. omega arith)
        (λ apart s.
        ⊎_elim
        (λ (q : l ≡ level). let at : level - 1 ≡ m = omega arith in eqb-false _ _ apart (subst (λ n. climb (parent_of areas) n a ≡ climb (parent_of areas) n b) at h))
        (λ (q : l ≡ level → ⊥). meet_apart k (suc m) (l + 1) level (omega arith) (omega (arith, q)) s h)
        (cases_eq l level)) g

  -- the area over an area one level higher
  over_next : (level a : ℕ) → 1 ≤ level → area_over areas (level + 1) a ≡ parent_of areas (area_over areas level a)
  unfolding climb
  over_next zero a l = absurd (omega arith)
  over_next (suc k) a l =
      let up : suc k + 1 - 1 ≡ suc k = omega arith in
      let here : k ≡ suc k - 1 = omega arith in
      ap (λ n. climb (parent_of areas) n a) up ∙ ap (λ n. parent_of areas (climb (parent_of areas) n a)) here

module _ (areas : List Area) (plan : is_plan areas ≡ true) where
  -- a slot that x contains
  contained : (x slot : ℕ) → numbered (length areas) x ≡ true → Contains areas x slot → (is_lowest areas (home_of areas slot) ≡ true) × Contains areas (home_of areas slot) slot × (area_over areas (area_at areas x).level (home_of areas slot) ≡ x)
  contained x slot t c =
      let r = lowest_at areas plan ((area_at areas x).level - 1) x slot t (omega (arith, level_within areas plan x t)) c in
      subst (λ a. (is_lowest areas a ≡ true) × Contains areas a slot × (area_over areas (area_at areas x).level a ≡ x)) (sym (own_home areas plan r.0 r.1 slot r.2)) (r.1, r.2, r.3)

  -- the top area contains each slot
  in_top : (slot : ℕ) → numbered (slot_count areas) slot ≡ true → Contains areas 1 slot
  in_top slot n = let p = numbered_parts (slot_count areas) slot n in let q = top_place_lem areas plan in (omega (arith, p, q), omega (arith, p, q))

  home : (slot : ℕ) → numbered (slot_count areas) slot ≡ true → (is_lowest areas (home_of areas slot) ≡ true) × Contains areas (home_of areas slot) slot
  home slot n = let r = contained 1 slot (top_numbered areas plan) (in_top slot n) in (r.0, r.1)

  over : (a level : ℕ) → is_lowest areas a ≡ true → 1 ≤ level → level ≤ top_level areas → (numbered (length areas) (area_over areas level a) ≡ true) × ((area_at areas (area_over areas level a)).level ≡ level)
  over a level low l m = let r = climbed areas plan a (level - 1) low (omega arith) in (r.0, omega (arith, r.1))

  contains_home : (x slot : ℕ) → numbered (length areas) x ≡ true → numbered (slot_count areas) slot ≡ true → area_over areas (area_at areas x).level (home_of areas slot) ≡ x → Contains areas x slot
  contains_home x slot t n e =
      let h = home slot n in
      let r = climbed areas plan (home_of areas slot) ((area_at areas x).level - 1) h.0 (omega (arith, level_within areas plan x t)) in
      subst (λ i. Contains areas i slot) e (omega (arith, r.2, h.1), omega (arith, r.3, h.1))

  top : (a : ℕ) → is_lowest areas a ≡ true → area_over areas (top_level areas) a ≡ 1
  top a low = let r = over a (top_level areas) low (omega (arith, top_high areas plan)) (omega arith) in top_only areas plan (area_over areas (top_level areas) a) r.0 r.1

  common : (a b : ℕ) → is_lowest areas a ≡ true → is_lowest areas b ≡ true → (1 ≤ common_level areas a b) × (common_level areas a b ≤ top_level areas) × (area_over areas (common_level areas a b) a ≡ area_over areas (common_level areas a b) b)
  unfolding climb
  common a b low low' =
      let w = meet_within areas (top_level areas - 1) 1 a b in
      let at : top_level areas - 1 ≡ 0 + (top_level areas - 1) = omega arith in
      (w.0, omega (arith, w.1, top_high areas plan), meet_together areas a b (top_level areas - 1) 0 1 refl (subst (λ n. climb (parent_of areas) n a ≡ climb (parent_of areas) n b) at (top a low ∙ sym (top b low'))))

  apart_below : (a b level : ℕ) → 1 ≤ level → level < common_level areas a b → area_over areas level a ≡ area_over areas level b → ⊥
  unfolding climb
  apart_below a b level l m = meet_apart areas a b (top_level areas - 1) 0 1 level refl l m

  pub tree_laws : TreeLaws areas
  tree_laws =
      record {
        own = λ i low. omega (arith, own_slots areas plan i low);
        under = under areas plan;
        whole = let p = top_place_lem areas plan in (omega (arith, p.0), p.1);
        home = home;
        over = over;
        contains = λ x slot t n. (λ c. (contained x slot t c).2, contains_home x slot t n);
        nested = λ a b level l e. over_next areas level a l ∙ ap (parent_of areas) e ∙ sym (over_next areas level b l);
        top = top;
        common = common;
        apart_below = λ a b level low low'. apart_below a b level;
      }
