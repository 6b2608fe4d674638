-- The areas over a lowest area, up to the top area, and the lowest area of a slot.
use Rattle.std.proofs.Common.{◌≡◌, ℕ, zero, suc, ◌+◌, ◌-◌, ◌<◌, ◌≤◌, true, false, eqb, List, [], ◌∷◌, ◌++◌, length, get_or, sym, refl, ap, ◌∙◌, subst, ⊎_elim, arith}
use Rattle.std.specs.List.{ContainsAt as Has, AllByRecursion}
use Rattle.std.proofs.ByRecursion.{All-weaker, all-has, has_get_or}
use Rattle.std.proofs.lemmas.List.{append-nil, length-map}
use Rattle.std.proofs.lemmas.Bool.{cond_both, cond-true, and_parts, and_from, false≢true, eqb-true, eq-eqb, cases_lt}
use Rattle.chain.specs.Chain.{place, numbered, link_of, Chain, among}
use Rattle.plan.specs.declared.area.Area.{Area}
use Rattle.plan.specs.declared.area.Place.{Place}
use Rattle.plan.specs.Walk.{area_at, slots_in, walk_from, walk_of}
use Rattle.plan.specs.Tree.{homes_in}
use Rattle.plan.specs.Plans.{is_plan, top_level, slot_count, place_of, slots_of, parent_of, is_lowest, home_of, climb}
use Rattle.plan.specs.Laws.{Contains, SideBySide}
use Rattle.plan.proofs.Walks.{along_end, along_more, walk_level}
use Rattle.plan.proofs.Places.{Met, Over, below_of, slots_cons, walk_met, home_at}
use Rattle.plan.proofs.Found.{top_numbered, met_numbered, place_met, place_area, place_alone, place_stands, place_level}
use Rattle.plan.proofs.Rules.{plan_rules}
use Rattle.plan.proofs.Rows.{under}

chain_numbered : (links : List ℕ) (head i : ℕ) (is : List ℕ) → Chain links head is → among i is ≡ true → numbered (length links) i ≡ true
chain_numbered links head i [] c h = absurd (false≢true h)
chain_numbered links head i (j ∷ js) c h =
    cond_both (eqb i j) true (among i js) (λ v. v ≡ true → numbered (length links) i ≡ true)
    (λ e _. rw (eqb-true i j e) c.1)
    (λ _ k. chain_numbered links (link_of links j) i js c.3 k) h

-- one of the areas that lie side by side contains the slot
beside : (areas : List Area) (from : ℕ) (is : List ℕ) (to slot : ℕ) → SideBySide areas from is to → from ≤ slot → slot ≤ to → (i : ℕ) × (among i is ≡ true) × Contains areas i slot
beside areas from [] to slot b l m = absurd (omega arith)
beside areas from (i ∷ is) to slot b l m =
    ⊎_elim
    (λ (h : (slots_of areas i).last < slot).
    let r = beside areas ((slots_of areas i).last + 1) is to slot b.1 (omega arith) m in
    (r.0, cond_both (eqb r.0 i) true (among r.0 is) (λ v. v ≡ true) (λ _. refl) (λ _. r.1), r.2))
    (λ (h : slot ≤ (slots_of areas i).last). (i, cond-true (eqb i i) _ _ (eq-eqb i i refl), (omega (arith, b.0), h)))
    (cases_lt (slots_of areas i).last slot)

module _ (areas : List Area) (plan : is_plan areas ≡ true) where
  -- lowest areas and their slots
  pub lowest_from : (a : ℕ) → numbered (length areas) a ≡ true → (area_at areas a).level ≡ 1 → is_lowest areas a ≡ true
  lowest_from a t e = and_from _ _ t (eq-eqb _ _ e)

  module _ (a : ℕ) (low : is_lowest areas a ≡ true) where
    pub lowest_parts : (numbered (length areas) a ≡ true) × ((area_at areas a).level ≡ 1)
    lowest_parts = let p = and_parts _ _ low in (p.0, eqb-true _ _ p.1)

    stands : Met areas (walk_of areas) (top_level areas) 0 0 (place_of areas a)
    stands = place_stands areas plan a lowest_parts.0

    pub own_slots : (place_of areas a).after ≡ (place_of areas a).before + (area_at areas a).slots
    unfolding walk_from
    own_slots =
        let m = stands in
        let q = place_of areas a in
        let none : m.lower ≡ 0 = omega (arith, m.high, place_level areas plan a lowest_parts.0, lowest_parts) in
        let empty : below_of areas m.lower q ≡ [] = ap (λ l. below_of areas l q) none in
        omega (arith, m.after, ap (slots_in areas) empty, ap (λ i. (area_at areas i).slots) (place_area areas plan a lowest_parts.0))

    pub own_home : (slot : ℕ) → Contains areas a slot → home_of areas slot ≡ a
    own_home slot c =
        let m = stands in
        let q = place_of areas a in
        let area = place_area areas plan a lowest_parts.0 in
        let k = slot - 1 - slots_in areas m.pre in
        let at : place slot ≡ slots_in areas m.pre + k = omega (arith, m.before, c) in
        let own : k < (area_at areas q.area).slots = omega (arith, m.before, c, own_slots, ap (λ i. (area_at areas i).slots) area) in
        ap (λ ws. get_or (homes_in areas ws) (place slot) 0) m.splits
        ∙ ap (λ j. get_or (homes_in areas (m.pre ++ (q ∷ (below_of areas m.lower q ++ m.post)))) j 0) at
        ∙ home_at areas m.pre q (below_of areas m.lower q ++ m.post) k own ∙ area

  -- the area under x that contains a slot of x
  child_at : (x slot : ℕ) → numbered (length areas) x ≡ true → 1 < (area_at areas x).level → Contains areas x slot → (i : ℕ) × (numbered (length areas) i ≡ true) × ((area_at areas i).level + 1 ≡ (area_at areas x).level) × (parent_of areas i ≡ x) × Contains areas i slot
  child_at x slot t l c =
      let u = under areas plan x t l in
      let d = beside areas _ u.children _ slot u.slots c.0 c.1 in
      let n : numbered (length areas) d.0 ≡ true = rw length-map at (chain_numbered _ _ d.0 u.children u.chain d.1) in
      (d.0, n, u.levels d.0 d.1, u.parents d.0 d.1, d.2)

  -- from an area down to the lowest area that contains the slot
  pub lowest_at : (l x slot : ℕ) → numbered (length areas) x ≡ true → (area_at areas x).level ≡ l + 1 → Contains areas x slot → (a : ℕ) × (is_lowest areas a ≡ true) × Contains areas a slot × (climb (parent_of areas) l a ≡ x)
  unfolding climb
  lowest_at zero x slot t e c = (x, lowest_from x t (omega arith), c, refl)
  lowest_at (suc l) x slot t e c =
      let d = child_at x slot t (omega arith) c in
      let r = lowest_at l d.0 slot d.1 (omega (arith, d.2)) d.4 in
      (r.0, r.1, r.2, rw r.3 d.3)

  -- one level up
  module _ (c : ℕ) (t : numbered (length areas) c ≡ true) (l : (area_at areas c).level < top_level areas) where
    parent_place : (q : Place) × Has (walk_of areas) q × Over q (place_of areas c)
    parent_place = ⊎_elim (λ h. absurd (omega (arith, h.1, place_level areas plan c t))) (λ h. h) (place_stands areas plan c t).over

    pub parent_numbered : numbered (length areas) (parent_of areas c) ≡ true
    parent_numbered = let h = parent_place in subst (λ i. numbered (length areas) i ≡ true) h.2.0 (met_numbered areas plan h.0 h.1)

    pub parent_over : Over (place_of areas (parent_of areas c)) (place_of areas c)
    parent_over = let h = parent_place in subst (λ q. Over q (place_of areas c)) (sym (place_alone areas plan (parent_of areas c) parent_numbered h.0 h.1 h.2.0)) h.2

  -- k levels up, from a lowest area
  pub climbed : (a k : ℕ) → is_lowest areas a ≡ true → k < top_level areas → (numbered (length areas) (climb (parent_of areas) k a) ≡ true) × ((area_at areas (climb (parent_of areas) k a)).level ≡ k + 1) × ((place_of areas (climb (parent_of areas) k a)).before ≤ (place_of areas a).before) × ((place_of areas a).after ≤ (place_of areas (climb (parent_of areas) k a)).after)
  unfolding climb
  climbed a zero low l = let p = lowest_parts a low in (p.0, omega arith, omega arith, omega arith)
  climbed a (suc k) low l =
      let r = climbed a k low (omega arith) in
      let c = climb (parent_of areas) k a in
      let up : (area_at areas c).level < top_level areas = omega (arith, r.1) in
      let t = parent_numbered c r.0 up in
      let o = parent_over c r.0 up in
      (t, omega (arith, o.1, r.1, place_level areas plan c r.0, place_level areas plan (parent_of areas c) t), omega (arith, o.2, r.2), omega (arith, o.3, r.3))

  -- the top area
  pub top_high : 2 ≤ top_level areas
  top_high = (plan_rules areas plan).high

  abbrev top_place : Place
  top_place = record { area = 1; level = top_level areas; parent = 0; before = 0; after = 0 + (area_at areas 1).slots + slots_in areas (walk_from areas (top_level areas - 1) 1 (area_at areas 1).child (0 + (area_at areas 1).slots)) }

  top_first : walk_of areas ≡ top_place ∷ walk_from areas (top_level areas - 1) 1 (area_at areas 1).child (0 + (area_at areas 1).slots)
  top_first =
      let below = walk_from areas (top_level areas - 1) in
      let inner = below 1 (area_at areas 1).child (0 + (area_at areas 1).slots) in
      let ended : numbered (length areas) (area_at areas 1).next ≡ false = ap (numbered (length areas)) (plan_rules areas plan).alone in
      walk_level areas (top_level areas) 0 1 0 (λ z. omega (arith, top_high))
      ∙ along_more areas below (top_level areas) 0 (length areas + 1) (length areas) 1 0 refl (top_numbered areas plan)
      ∙ ap (λ ws. (top_place ∷ inner) ++ ws) (along_end areas below (top_level areas) 0 (length areas) (area_at areas 1).next (0 + (area_at areas 1).slots + slots_in areas inner) ended)
      ∙ append-nil (top_place ∷ inner)

  top_at : place_of areas 1 ≡ top_place
  top_at =
      let inner = walk_from areas (top_level areas - 1) 1 (area_at areas 1).child (0 + (area_at areas 1).slots) in
      place_alone areas plan 1 (top_numbered areas plan) top_place (subst (λ ws. Has ws top_place) (sym top_first) (has_get_or (top_place ∷ inner) 0 top_place (omega arith))) refl

  pub top_place_lem : ((place_of areas 1).before ≡ 0) × ((place_of areas 1).after ≡ slot_count areas)
  top_place_lem =
      let inner = walk_from areas (top_level areas - 1) 1 (area_at areas 1).child (0 + (area_at areas 1).slots) in
      (ap (λ q. q.before) top_at, omega (arith, ap (λ q. q.after) top_at, ap (slots_in areas) top_first, slots_cons areas top_place inner))

  pub top_parent : parent_of areas 1 ≡ 0
  top_parent = ap (λ q. q.parent) top_at

  pub top_only : (x : ℕ) → numbered (length areas) x ≡ true → (area_at areas x).level ≡ top_level areas → x ≡ 1
  top_only x t e =
      let inner = walk_from areas (top_level areas - 1) 1 (area_at areas 1).child (0 + (area_at areas 1).slots) in
      let P : Place → Type 0 = λ q. q.level ≡ top_level areas → q.area ≡ 1 in
      let lower : AllByRecursion P inner = All-weaker _ P (λ q m z. absurd (omega (arith, m.low, top_high))) inner (walk_met areas (top_level areas - 1) 1 (area_at areas 1).child (0 + (area_at areas 1).slots)) in
      let all : AllByRecursion P (top_place ∷ inner) = (λ _. refl, lower) in
      sym (place_area areas plan x t) ∙ all-has P (walk_of areas) (place_of areas x) (subst (AllByRecursion P) (sym top_first) all) (place_met areas plan x t) (place_level areas plan x t ∙ e)
