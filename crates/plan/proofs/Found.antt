-- The one place of each area of a plan, and what the rules of a plan tell of its record.
use Rattle.std.proofs.Common.{◌≡◌, ℕ, ◌<◌, ◌≤◌, Bool, true, false, cond, eqb, List, [], ◌∷◌, ◌++◌, length, is_some, Some, None, Option, unwrap_or, sym, refl, ap, ◌∙◌, subst, arith}
use Rattle.std.specs.List.{ContainsAt as Has, AllByRecursion}
use Rattle.std.proofs.ByRecursion.{All-weaker, all-has, has_get_or, has_append_right}
use Rattle.std.proofs.lemmas.Bool.{cond_both, cond-true, cond-false, and_parts, and_from, false≢true, eqb-true, eqb-false, eq-eqb, ne_eqb}
use Rattle.chain.specs.Chain.{numbered}
use Rattle.plan.specs.declared.area.Area.{Area}
use Rattle.plan.specs.declared.area.Place.{Place}
use Rattle.plan.specs.Walk.{area_at, walk_of}
use Rattle.plan.specs.Tree.{every, fits, unmet, only_place}
use Rattle.plan.specs.Plans.{is_plan, top_level, place_of}
use Rattle.plan.proofs.Conds.{some_from_lem}
use Rattle.plan.proofs.Tests.{all_from_test}
use Rattle.plan.proofs.Walks.{walk_numbered}
use Rattle.plan.proofs.Places.{Met, walk_met}
use Rattle.plan.proofs.Rules.{Rules, met_once, plan_rules}

some_value : {X : Type 0} (o : Option X) (d : X) → is_some o ≡ true → o ≡ Some (unwrap_or o d)
some_value (Some x) d e = refl
some_value None d e = absurd (false≢true e)

pub every_parts : {X : Type 0} (ok : X → Bool) (xs ys : List X) → every ok (xs ++ ys) ≡ true → (every ok xs ≡ true) × (every ok ys ≡ true)
every_parts ok [] ys e = (refl, e)
every_parts ok (x ∷ xs) ys e =
    let p = and_parts (ok x) _ e in
    let r = every_parts ok xs ys p.1 in
    (and_from _ _ p.0 r.0, r.1)

pub unmet_other : (p : Place) (i : ℕ) → cond (eqb p.area i) false true ≡ true → p.area ≡ i → ⊥
unmet_other p i h e = false≢true (sym (cond-true _ _ _ (eq-eqb _ _ e)) ∙ h)

-- the one place of area i is met, and each place of area i is that one
only_met : (ps : List Place) (i : ℕ) (p : Place) → only_place ps i ≡ Some p → Has ps p × (p.area ≡ i)
only_met [] i p e = absurd (grind (arith, e))
only_met (x ∷ ps) i p e =
    cond_both (eqb x.area i) _ _ (λ o. o ≡ Some p → Has (x ∷ ps) p × (p.area ≡ i))
    (λ t h. let px : p ≡ x = (some_from_lem (unmet ps i) x p (sym h)).1 in (subst (Has (x ∷ ps)) (sym px) (has_get_or (x ∷ ps) 0 x (omega arith)), ap (λ q. q.area) px ∙ eqb-true _ _ t))
    (λ _ h. let r = only_met ps i p h in (has_append_right (x ∷ []) ps p r.0, r.1)) e

only_alone : (ps : List Place) (i : ℕ) (p : Place) → only_place ps i ≡ Some p → AllByRecursion (λ q. q.area ≡ i → q ≡ p) ps
only_alone [] i p e = tt
only_alone (x ∷ ps) i p e =
    cond_both (eqb x.area i) _ _ (λ o. o ≡ Some p → AllByRecursion (λ q. q.area ≡ i → q ≡ p) (x ∷ ps))
    (λ t h.
    let r = some_from_lem (unmet ps i) x p (sym h) in
    (λ _. sym r.1, All-weaker _ (λ q. q.area ≡ i → q ≡ p) (λ q u a. absurd (unmet_other q i u a)) ps (all_from_test (λ q. cond (eqb q.area i) false true) ps r.0)))
    (λ f h. (λ a. absurd (eqb-false _ _ f a), only_alone ps i p h)) e

-- behind the one place of area i the walk does not meet it again
pub unmet_behind : (pre : List Place) (p : Place) (post : List Place) (i : ℕ) → p.area ≡ i → is_some (only_place (pre ++ (p ∷ post)) i) ≡ true → unmet post i ≡ true
unmet_behind pre p post i a = go pre
  where
    alone : (ps : List Place) (x : Place) → is_some (cond (unmet ps i) (Some x) None) ≡ true → unmet ps i ≡ true
    alone ps x h = (some_from_lem (unmet ps i) x _ (sym (some_value (cond (unmet ps i) (Some x) None) x h))).0

    go : (pre : List Place) → is_some (only_place (pre ++ (p ∷ post)) i) ≡ true → unmet post i ≡ true
    go [] h = alone post p (ap is_some (sym (cond-true _ _ _ (eq-eqb _ _ a))) ∙ h)
    go (x ∷ pre) h =
        cond_both (eqb x.area i) _ _ (λ o. is_some o ≡ true → unmet post i ≡ true)
        (λ _ k. (and_parts _ _ (every_parts _ pre (p ∷ post) (alone (pre ++ (p ∷ post)) x k)).1).1)
        (λ _ k. go pre k) h

module _ (areas : List Area) (plan : is_plan areas ≡ true) where
  abbrev rules : Rules areas
  rules = plan_rules areas plan

  -- where each area of the plan is met
  module _ (i : ℕ) (t : numbered (length areas) i ≡ true) where
    only_place_lem : only_place (walk_of areas) i ≡ Some (place_of areas i)
    only_place_lem = some_value (only_place (walk_of areas) i) _ (met_once areas rules i t)

    pub place_met : Has (walk_of areas) (place_of areas i)
    place_met = (only_met (walk_of areas) i (place_of areas i) only_place_lem).0

    pub place_area : (place_of areas i).area ≡ i
    place_area = (only_met (walk_of areas) i (place_of areas i) only_place_lem).1

    pub place_alone : (q : Place) → Has (walk_of areas) q → q.area ≡ i → place_of areas i ≡ q
    place_alone q h a = sym (all-has (λ q. q.area ≡ i → q ≡ place_of areas i) (walk_of areas) q (only_alone (walk_of areas) i (place_of areas i) only_place_lem) h a)

    pub place_stands : Met areas (walk_of areas) (top_level areas) 0 0 (place_of areas i)
    place_stands = all-has (Met areas (walk_of areas) (top_level areas) 0 0) (walk_of areas) (place_of areas i) (walk_met areas (top_level areas) 0 1 0) place_met

    pub place_level : (place_of areas i).level ≡ (area_at areas i).level
    place_level = sym (eqb-true _ _ (and_parts _ _ (all-has (λ p. fits areas p ≡ true) (walk_of areas) (place_of areas i) rules.fit place_met)).0) ∙ ap (λ j. (area_at areas j).level) place_area

    pub level_within : (1 ≤ (area_at areas i).level) × ((area_at areas i).level ≤ top_level areas)
    level_within = let m = place_stands in (omega (arith, m.high, place_level), omega (arith, m.low, place_level))

    pub region_slots : 1 < (area_at areas i).level → (area_at areas i).slots ≡ 0
    region_slots l = eqb-true _ _ (sym (cond-false _ _ _ (ne_eqb (area_at areas i).level 1 (omega arith))) ∙ rules.right i t)

  -- the area of each place that is met
  pub met_numbered : (q : Place) → Has (walk_of areas) q → numbered (length areas) q.area ≡ true
  met_numbered q = all-has (λ p. numbered (length areas) p.area ≡ true) (walk_of areas) q (walk_numbered areas _ _ _ _)

  pub top_numbered : numbered (length areas) 1 ≡ true
  top_numbered = (and_parts _ _ rules.few).0
