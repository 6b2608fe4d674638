-- What a walk from nothing tells of the whole plan.
use Rattle.std.proofs.Common.{◌≡◌, ℕ, ◌<◌, ◌≤◌, true, false, eqb, leb, List, [], length, Ok, Err, sym, ap, ◌∙◌, subst}
use Rattle.std.proofs.lemmas.Bool.{eq-eqb, and_left, and_right, and_from, cond-true, cond-false}
use Rattle.plan.specs.declared.area.Area.{Area}
use Rattle.plan.specs.declared.area.Place.{Place}
use Rattle.plan.specs.declared.refusal.Refusal.TheVariants.{NotATree}
use Rattle.plan.specs.Tree.{every, fits, order_of}
use Rattle.plan.specs.Walk.{area_at, walk_of, Walked}
use Rattle.plan.proofs.Walks.{walked_all, walked_over}

module _ (areas : List Area) (none order : List Place) (slots : ℕ) (empty : none ≡ []) (w : Walked areas (walk_of areas) 0 none [] slots order) where
  from_nothing : Walked areas (walk_of areas) 0 [] [] slots order
  from_nothing = subst (λ xs. Walked areas (walk_of areas) 0 xs [] slots order) empty w

  pub order_long : length areas < length order → order_of areas ≡ Err NotATree
  order_long l = cond-false _ _ _ (and_right (eqb (area_at areas 1).next 0) _ (and_left _ _ (walked_over areas (walk_of areas) order slots from_nothing l)))

  module _ (l : length order ≤ length areas) where
    pub order_is : order ≡ walk_of areas
    order_is = (walked_all areas (walk_of areas) order slots from_nothing l).0

    pub order_wrong : false ≡ every (fits areas) order → order_of areas ≡ Err NotATree
    order_wrong e = cond-false _ _ _ (and_right (eqb (area_at areas 1).next 0) _ (and_right (leb (length (walk_of areas)) (length areas)) _ (ap (every (fits areas)) (sym order_is) ∙ sym e)))

    pub order_right : (area_at areas 1).next ≡ 0 → true ≡ every (fits areas) order → order_of areas ≡ Ok (order, slots)
    order_right t e =
        let v = walked_all areas (walk_of areas) order slots from_nothing l in
        cond-true _ _ _ (and_from _ _ (eq-eqb _ _ t) (and_from _ _ v.2 (ap (every (fits areas)) (sym v.0) ∙ sym e)))
        ∙ ap (λ x. Ok x) (λ i. (sym v.0 i, sym v.1 i))
