-- What an accepted plan's tables hold.
use Rattle.std.proofs.Common.{◌≡◌, ℕ, zero, suc, ◌+◌, ◌≤◌, true, false, eqb, List, [], ◌∷◌, ◌++◌, length, get_or, replicate, None, sum_by, Option, unwrap_or, sym, refl, ap, ◌∙◌, subst, add-one, arith}
use Rattle.std.specs.List.{AllByRecursion, fold, range_with_len}
use Rattle.std.proofs.lemmas.List.FromFn.{get_or-map-range_with_len}
use Rattle.std.proofs.ByRecursion.{All-append, All-weaker}
use Rattle.std.proofs.lemmas.List.{length-append, length-replicate}
use Rattle.std.proofs.lemmas.List.Sums.{sum_by-cons, sum_by-append}
use Rattle.std.proofs.lemmas.Bool.{cond_both, cond-true, cond-false, eq-eqb, ne_eqb, both_ways}
use Rattle.chain.specs.Chain.{place, numbered}
use Rattle.chain.proofs.Chains.{numbered_parts, place_within}
use Rattle.plan.specs.declared.area.Area.{Area}
use Rattle.plan.specs.declared.area.Place.{Place}
use Rattle.plan.specs.Plans.{slot_count, place_of, places_of, parent_of, climb, meet_from}
use Rattle.plan.specs.Tree.{nowhere, only_place, place_in, homes_in, unmet}
use Rattle.plan.specs.Walk.{area_at, along, walk_from, walk_of, slots_in}
use Rattle.plan.proofs.Walks.{walk_numbered}

-- a slot for each of the areas' slots
pub length_homes : (areas : List Area) (ps : List Place) → length (homes_in areas ps) ≡ slots_in areas ps
length_homes areas [] = refl
length_homes areas (p ∷ ps) =
    let own = (area_at areas p.area).slots in
    length-append (replicate own p.area) (homes_in areas ps)
    ∙ ap (λ x. x + length (homes_in areas ps)) (length-replicate own p.area)
    ∙ ap (λ x. own + x) (length_homes areas ps)
    ∙ sym (sum_by-cons (λ q. (area_at areas q.area).slots) p ps)

-- what holds of each place of a walk, and of none, holds of the place of an area
pub placed_all : (P : Place → Type 0) → P nowhere → (ps : List Place) → AllByRecursion P ps → (i : ℕ) → P (place_in ps i)
placed_all P none [] a i = none
placed_all P none (p ∷ ps) a i =
    cond_both (eqb p.area i) _ _ (λ o. P (unwrap_or o nowhere))
    (λ _. cond_both (unmet ps i) _ _ (λ o. P (unwrap_or o nowhere)) (λ _. a.0) (λ _. none))
    (λ _. placed_all P none ps a.1 i)

-- an area that no place is of has none
pub unplaced : (ps : List Place) (i : ℕ) → AllByRecursion (λ p. p.area ≡ i → ⊥) ps → only_place ps i ≡ None
unplaced [] i a = refl
unplaced (p ∷ ps) i a = rw (ne_eqb p.area i a.0) (unplaced ps i a.1)

pub no_parent : (areas : List Area) (i : ℕ) → numbered (length areas) i ≡ false → parent_of areas i ≡ 0
no_parent areas i f =
    let none : only_place (walk_of areas) i ≡ None =
    unplaced (walk_of areas) i
    (All-weaker (λ p. numbered (length areas) p.area ≡ true) (λ p. p.area ≡ i → ⊥)
    (λ p t e. both_ways (numbered (length areas) i) f (subst (λ x. numbered (length areas) x ≡ true) e t)) (walk_of areas) (walk_numbered areas _ _ _ _)) in
    ap (λ (o : Option Place). (unwrap_or o nowhere).parent) none

pub place_read : (areas : List Area) (i : ℕ) (d : Place) → numbered (length areas) i ≡ true → get_or (places_of areas) (place i) d ≡ place_of areas i
place_read areas i d t = let p = numbered_parts (length areas) i t in get_or-map-range_with_len (place_of areas) 1 (length areas) (place i) i d (place_within (length areas) i t) (omega arith)

-- the slots of a walk's areas lie between those before the walk and those after it
abbrev pub Within : ℕ → ℕ → Place → Type 0
Within low high p = (low ≤ p.before) × (p.before ≤ p.after) × (p.after ≤ high)

wider : (a b c d : ℕ) → a ≤ b → c ≤ d → (p : Place) → Within b c p → Within a d p
wider a b c d l m p w = (omega (arith, w.0), w.1, omega (arith, w.2))

module _ (areas : List Area) where
  along_within : (below : ℕ → ℕ → ℕ → List Place) (level parent : ℕ) → ((i c b : ℕ) → AllByRecursion (Within b (b + slots_in areas (below i c b))) (below i c b)) → (n i b : ℕ) → AllByRecursion (Within b (b + slots_in areas (along areas below level parent n i b))) (along areas below level parent n i b)
  unfolding along
  along_within below level parent h zero i b = tt
  along_within below level parent h (suc n) i b =
      cond_both (numbered (length areas) i) _ _ (λ ps. AllByRecursion (Within b (b + slots_in areas ps)) ps)
      (λ _.
      let s = (area_at areas i).slots in
      let inner = below i (area_at areas i).child (b + s) in
      let e = b + s + slots_in areas inner in
      let rest = along areas below level parent n (area_at areas i).next e in
      let here : Place = record { area = i; level = level; parent = parent; before = b; after = e } in
      let f : Place → ℕ = λ p. (area_at areas p.area).slots in
      let sum : sum_by f ((here ∷ inner) ++ rest) ≡ s + sum_by f inner + sum_by f rest = sum_by-append f (here ∷ inner) rest ∙ ap (λ x. x + sum_by f rest) (sum_by-cons f here inner) in
      let high = b + sum_by f ((here ∷ inner) ++ rest) in (
        (omega arith, omega arith, omega (arith, sum)),
        All-append (Within b high) inner rest
            (All-weaker _ (Within b high) (wider b (b + s) e high (omega arith) (omega (arith, sum))) inner (h i (area_at areas i).child (b + s)))
            (All-weaker _ (Within b high) (wider b e (e + slots_in areas rest) high (omega arith) (omega (arith, sum))) rest (along_within below level parent h n (area_at areas i).next e)),
      ))
      (λ _. tt)

  pub walk_within : (level parent i b : ℕ) → AllByRecursion (Within b (b + slots_in areas (walk_from areas level parent i b))) (walk_from areas level parent i b)
  unfolding walk_from
  walk_within zero parent i b = tt
  walk_within (suc l) parent i b = along_within (walk_from areas l) (suc l) parent (walk_within l) (length areas + 1) i b

  pub place_within_plan : (i : ℕ) → Within 0 (slot_count areas) (place_of areas i)
  place_within_plan i = placed_all (Within 0 (slot_count areas)) (omega arith, omega arith, omega arith) (walk_of areas) (All-weaker _ (Within 0 (slot_count areas)) (λ p w. (w.0, w.1, omega (arith, w.2))) (walk_of areas) (walk_within _ 0 1 0)) i

pub climb_none : (areas : List Area) (i : ℕ) → climb (parent_of areas) 0 i ≡ i
unfolding climb
climb_none areas i = refl

-- climbing is a fold over as many numbers
climb_first : (f : ℕ → ℕ) (k i : ℕ) → climb f k (f i) ≡ f (climb f k i)
unfolding climb
climb_first f zero i = refl
climb_first f (suc k) i = ap f (climb_first f k i)

pub climb_folds : (f : ℕ → ℕ) (k a i : ℕ) → fold (λ x _. f x) i (range_with_len a k) ≡ climb f k i
unfolding climb
climb_folds f zero a i = refl
climb_folds f (suc k) a i = climb_folds f k (a + 1) (f i) ∙ climb_first f k i

pub meet_none : (areas : List Area) (k l x y : ℕ) → k ≡ 0 → meet_from (parent_of areas) k l x y ≡ l
unfolding meet_from
meet_none areas k l x y e = rw e

pub meet_here : (areas : List Area) (k l x y : ℕ) → x ≡ y → meet_from (parent_of areas) k l x y ≡ l
unfolding meet_from
meet_here areas zero l x y e = refl
meet_here areas (suc k) l x y e = cond-true _ _ _ (eq-eqb x y e)

pub meet_more : (areas : List Area) (k m l x y : ℕ) → k ≡ m + 1 → (x ≡ y → ⊥) → meet_from (parent_of areas) k l x y ≡ meet_from (parent_of areas) m (l + 1) (parent_of areas x) (parent_of areas y)
unfolding meet_from
meet_more areas k m l x y km ne = rw (km, add-one) (cond-false _ _ _ (ne_eqb x y ne))
