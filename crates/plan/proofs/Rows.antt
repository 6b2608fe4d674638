-- The areas under an area: the chain from its child on, as the walk meets it.
use Rattle.std.proofs.Common.{◌≡◌, ℕ, zero, suc, ◌+◌, ◌-◌, ◌<◌, ◌≤◌, true, false, eqb, List, [], ◌∷◌, ◌++◌, map, length, is_some, sym, refl, ap, ◌∙◌, subst, ⊎_elim, arith}
use Rattle.std.specs.List.{ContainsAt as Has}
use Rattle.std.proofs.ByRecursion.{has_get_or, has_append_right}
use Rattle.std.proofs.lemmas.List.{append_assoc, length-append, length-map, get_or-map}
use Rattle.std.proofs.lemmas.Bool.{cond_both, and_parts, false≢true, eqb-true, cases_Bool}
use Rattle.chain.specs.Chain.{place, numbered, link_of, Chain, Absent, among}
use Rattle.chain.proofs.Chains.{place_within}
use Rattle.plan.specs.declared.area.Area.{Area}
use Rattle.plan.specs.declared.area.Place.{Place}
use Rattle.plan.specs.Walk.{area_at, slots_in, along, walk_from, walk_of}
use Rattle.plan.specs.Tree.{unmet, only_place}
use Rattle.plan.specs.Plans.{is_plan, top_level, place_of}
use Rattle.plan.specs.Laws.{SideBySide, Under}
use Rattle.plan.proofs.Walks.{along_end, along_more, walk_level, unnumbered}
use Rattle.plan.proofs.Places.{Met, below_of, slots_append, slots_cons}
use Rattle.plan.proofs.Found.{every_parts, unmet_other, unmet_behind, place_area, place_alone, place_stands, place_level, region_slots}
use Rattle.plan.proofs.Rules.{met_once, plan_rules}

-- The walk of a chain of areas, after b slots: the areas that it visits, and the places where the whole walk meets them.
record Row (areas : List Area) (walk : List Place) (level parent head b : ℕ) : Type 0 where
  children : List ℕ
  chain : Chain (map (λ (a : Area). a.next) areas) head children
  met : (i : ℕ) → among i children ≡ true → (numbered (length areas) i ≡ true) × ((place_of areas i).level ≡ level) × ((place_of areas i).parent ≡ parent)
  slots : SideBySide areas (b + 1) children (b + slots_in areas walk)
  apart : (i : ℕ) → unmet walk i ≡ true → Absent i children

module _ (areas : List Area) (plan : is_plan areas ≡ true) where
  -- one more area in front of a row
  module _ (level parent j b : ℕ) (inner rest pre post : List Place) (t : numbered (length areas) j ≡ true) where
    abbrev s : ℕ
    s = (area_at areas j).slots

    abbrev p : Place
    p = record { area = j; level = level; parent = parent; before = b; after = b + s + slots_in areas inner }

    module _ (splits : walk_of areas ≡ pre ++ (p ∷ ((inner ++ rest) ++ post))) (r : Row areas rest level parent (area_at areas j).next (b + s + slots_in areas inner)) where
      here : place_of areas j ≡ p
      here = place_alone areas plan j t p (subst (λ ws. Has ws p) (sym splits) (has_append_right pre _ p (has_get_or (p ∷ ((inner ++ rest) ++ post)) 0 p (omega arith)))) refl

      unmet_rest : unmet rest j ≡ true
      unmet_rest =
          let u = unmet_behind pre p ((inner ++ rest) ++ post) j refl (subst (λ ws. is_some (only_place ws j) ≡ true) splits (met_once areas (plan_rules areas plan) j t)) in
          (every_parts _ inner rest (every_parts _ (inner ++ rest) post u).0).1

      chain_more : Chain (map (λ (a : Area). a.next) areas) j (j ∷ r.children)
      chain_more =
          let links = map (λ (a : Area). a.next) areas in
          let next : link_of links j ≡ (area_at areas j).next = get_or-map (λ (a : Area). a.next) areas (place j) _ 0 (place_within (length areas) j t) in
          (refl, rw length-map t, r.apart j unmet_rest, subst (λ h. Chain links h r.children) (sym next) r.chain)

      met_more : (i : ℕ) → among i (j ∷ r.children) ≡ true → (numbered (length areas) i ≡ true) × ((place_of areas i).level ≡ level) × ((place_of areas i).parent ≡ parent)
      met_more i =
          cond_both (eqb i j) true (among i r.children) (λ v. v ≡ true → (numbered (length areas) i ≡ true) × ((place_of areas i).level ≡ level) × ((place_of areas i).parent ≡ parent))
          (λ e _.
          let ij : j ≡ i = sym (eqb-true i j e) in
          subst (λ x. (numbered (length areas) x ≡ true) × ((place_of areas x).level ≡ level) × ((place_of areas x).parent ≡ parent)) ij (t, ap (λ q. q.level) here, ap (λ q. q.parent) here))
          (λ _ h. r.met i h)

      slots_more : SideBySide areas (b + 1) (j ∷ r.children) (b + slots_in areas (p ∷ (inner ++ rest)))
      slots_more =
          let ends : (place_of areas j).after ≡ b + s + slots_in areas inner = ap (λ q. q.after) here in
          let to : b + s + slots_in areas inner + slots_in areas rest ≡ b + slots_in areas (p ∷ (inner ++ rest)) = omega (arith, slots_cons areas p (inner ++ rest), slots_append areas inner rest) in
          (ap (λ q. q.before + 1) here, subst (λ x. SideBySide areas (x + 1) r.children (b + slots_in areas (p ∷ (inner ++ rest)))) (sym ends) (subst (SideBySide areas (b + s + slots_in areas inner + 1) r.children) to r.slots))

      row_more : Row areas (p ∷ (inner ++ rest)) level parent j b
      row_more =
          record {
            children = j ∷ r.children;
            chain = chain_more;
            met = met_more;
            slots = slots_more;
            apart = λ i u. let v = and_parts _ _ u in (λ e. unmet_other p i v.0 (sym e), r.apart i (every_parts _ inner rest v.1).1);
          }

  -- the walk of a chain within the whole walk
  module _ (below : ℕ → ℕ → ℕ → List Place) (level parent : ℕ) where
    row : (k j b : ℕ) (pre post : List Place) → walk_of areas ≡ pre ++ (along areas below level parent k j b ++ post) → j ≤ length areas → length (along areas below level parent k j b) < k → Row areas (along areas below level parent k j b) level parent j b
    row zero j b pre post e l m = absurd (omega arith)
    row (suc k) j b pre post e l m =
        ⊎_elim
        (λ (t : numbered (length areas) j ≡ true).
        let s = (area_at areas j).slots in
        let inner = below j (area_at areas j).child (b + s) in
        let rest = along areas below level parent k (area_at areas j).next (b + s + slots_in areas inner) in
        let q : Place = record { area = j; level = level; parent = parent; before = b; after = b + s + slots_in areas inner } in
        let more : along areas below level parent (suc k) j b ≡ q ∷ (inner ++ rest) = along_more areas below level parent (suc k) k j b (omega arith) t in
        let whole : walk_of areas ≡ pre ++ (q ∷ ((inner ++ rest) ++ post)) = e ∙ ap (λ ws. pre ++ (ws ++ post)) more in
        let long : length (along areas below level parent (suc k) j b) ≡ suc (length inner + length rest) = ap length more ∙ ap suc (length-append inner rest) in
        subst (λ ws. Row areas ws level parent j b) (sym more)
        (row_more level parent j b inner rest pre post t whole
        (row k (area_at areas j).next (b + s + slots_in areas inner) (pre ++ (q ∷ inner)) post (whole ∙ simp append_assoc) ((plan_rules areas plan).range j t).3 (omega arith))))
        (λ (f : numbered (length areas) j ≡ false).
        subst (λ ws. Row areas ws level parent j b) (sym (along_end areas below level parent (suc k) j b f))
        (record { children = []; chain = unnumbered (length areas) j f l; met = λ i h. absurd (false≢true h); slots = omega arith; apart = λ i u. tt }))
        (cases_Bool (numbered (length areas) j))

  -- the areas under an area of a higher level
  module _ (x : ℕ) (t : numbered (length areas) x ≡ true) (h : 1 < (area_at areas x).level) (m : Met areas (walk_of areas) (top_level areas) 0 0 (place_of areas x)) where
    abbrev walk : List Place
    walk = along areas (walk_from areas (m.lower - 1)) m.lower x (length areas + 1) (area_at areas x).child (place_of areas x).before

    below_is : below_of areas m.lower (place_of areas x) ≡ walk
    below_is =
        let b = (place_of areas x).before in
        let none : b + (area_at areas x).slots ≡ b = omega (arith, region_slots areas plan x t h) in
        ap (λ i. walk_from areas m.lower i (area_at areas i).child (b + (area_at areas i).slots)) (place_area areas plan x t)
        ∙ ap (walk_from areas m.lower x (area_at areas x).child) none
        ∙ walk_level areas m.lower x (area_at areas x).child b (λ z. omega (arith, m.high, place_level areas plan x t))

    row_below : Row areas walk m.lower x (area_at areas x).child (place_of areas x).before
    row_below =
        let q = place_of areas x in
        let splits : walk_of areas ≡ (m.pre ++ (q ∷ [])) ++ (walk ++ m.post) = m.splits ∙ ap (λ ws. m.pre ++ (q ∷ (ws ++ m.post))) below_is ∙ simp append_assoc in
        row (walk_from areas (m.lower - 1)) m.lower x (length areas + 1) (area_at areas x).child q.before (m.pre ++ (q ∷ [])) m.post splits ((plan_rules areas plan).range x t).2
        (omega (arith, (plan_rules areas plan).short, simp length-append at (ap length splits)))

    under_row : Row areas walk m.lower x (area_at areas x).child (place_of areas x).before → Under areas x
    under_row r =
        let q = place_of areas x in
        let ends : q.before + slots_in areas walk ≡ q.after = omega (arith, m.after, ap (slots_in areas) below_is, region_slots areas plan x t h, ap (λ i. (area_at areas i).slots) (place_area areas plan x t)) in
        record {
          children = r.children;
          chain = r.chain;
          levels = λ i a. omega (arith, place_level areas plan i (r.met i a).0, (r.met i a).1, place_level areas plan x t, m.high);
          parents = λ i a. (r.met i a).2;
          slots = subst (SideBySide areas (q.before + 1) r.children) ends r.slots;
        }

  pub under : (x : ℕ) → numbered (length areas) x ≡ true → 1 < (area_at areas x).level → Under areas x
  under x t h = let m = place_stands areas plan x t in under_row x t h m (row_below x t h m)
