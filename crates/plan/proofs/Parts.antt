-- The parts of the reading put together.
use Rattle.std.proofs.Common.{◌≡◌, ℕ, ◌+◌, ◌/◌, ◌%◌, ◌<◌, ◌≤◌, ◌&&◌, Bool, true, false, cond, eqb, leb, List, map, length, get_or, is_some, IfSome, Some, None, Ok, Err, Option, Result, sym, refl, ap, ◌∙◌, subst, arith}
use Rattle.std.specs.List.{range_with_len}
use Rattle.std.proofs.lemmas.Bool.{and_left, and_right, and_from, and_parts, leb-true, cond-true, cond-false, le-leb, lt-leb}
use Rattle.std.proofs.lemmas.List.FromFn.{length-map-range_with_len, get_or-map-range_with_len}
use Rattle.std.proofs.lemmas.List.{ext_get_or}
use Rattle.std.proofs.lemmas.Simd.{map-map}
use Rattle.chain.specs.Chain.{numbered, place}
use Rattle.chain.proofs.Chains.{numbered_parts}
use Rattle.plan.specs.declared.area.Area.{Area}
use Rattle.plan.specs.declared.area.Node.{Node}
use Rattle.plan.specs.declared.area.Place.{Place}
use Rattle.plan.specs.declared.refusal.Refusal.{Refusal}
use Rattle.plan.specs.declared.refusal.Refusal.TheVariants.{Length, NotATree, Slots, TooManySlots}
use Rattle.plan.specs.Answers.{Answers}
use Rattle.plan.specs.Refusals.{refusal_number}
use Rattle.plan.specs.Nodes.{areas_in, places_in, node_in, nodes_met}
use Rattle.plan.specs.Plans.{is_plan, places_of, homes_of, tables_if, tables_of}
use Rattle.plan.specs.Reading.{first_wrong, slots_right, slots_checked, check_tree, area_in_range, good_length, areas_read, read_plan, read_records, records_read, record_in_range, area_of, areas_of, and_then}
use Rattle.plan.specs.Tree.{every, is_tree, well_placed, only_place, order_of}
use Rattle.plan.specs.Walk.{area_at, walk_of, slots_in}
use Rattle.plan.proofs.Conds.{ok_from, err_from}
use Rattle.plan.proofs.Firsts.{every_from_none}
use Rattle.plan.proofs.Tests.{each_number, number_each}

abbrev pub placed : List Place → ℕ → Bool
placed ps n = every (λ i. is_some (only_place ps i)) (range_with_len 1 n)

-- the areas, each read by its number
each_area : (areas : List Area) → map (area_at areas) (range_with_len 1 (length areas)) ≡ areas
each_area areas =
    let none : Area = record { level = 0; child = 0; next = 0; slots = 0 } in
    let long = length-map-range_with_len (area_at areas) 1 (length areas) in
    ext_get_or none _ areas long (λ i l.
    let at : place (1 + i) ≡ i = omega arith in
    get_or-map-range_with_len (area_at areas) 1 (length areas) i (1 + i) none (omega (arith, l, long)) refl ∙ ap (λ k. get_or areas k none) at)

module _ (areas : List Area) where
  no_tree : is_tree areas ≡ false → check_tree areas ≡ Err NotATree
  no_tree e = cond-false _ _ _ e

  pub order_refused : (e : Refusal) → order_of areas ≡ Err e → check_tree areas ≡ Err e
  unfolding is_tree
  order_refused e h = let p = err_from (well_placed areas) _ _ e h in no_tree (and_left (well_placed areas) _ p.0) ∙ ap (λ x. Err x) (sym p.1)

  module _ (order : List Place) (slots : ℕ) (ordered : order_of areas ≡ Ok (order, slots)) where
    told : (well_placed areas ≡ true) × (◌≡◌ {A = List Place × ℕ} (order, slots) (walk_of areas, slots_in areas (walk_of areas)))
    told = ok_from (well_placed areas) _ _ _ ordered

    pub order_told : order ≡ walk_of areas
    order_told = ap (λ x. x.0) told.1

    pub slots_told : slots ≡ slots_in areas (walk_of areas)
    slots_told = ap (λ x. x.1) told.1

    pub nodes_refused : (e : Refusal) → nodes_met areas order ≡ Err e → check_tree areas ≡ Err e
    unfolding is_tree
    nodes_refused e h =
        let p = err_from (placed order (length areas)) _ _ e h in
        let f : placed (walk_of areas) (length areas) ≡ false = ap (λ ps. placed ps (length areas)) (sym order_told) ∙ p.0 in
        no_tree (and_right (well_placed areas) _ f) ∙ ap (λ x. Err x) (sym p.1)

    module _ (nodes : List Node) (met : nodes_met areas order ≡ Ok nodes) where
      nodes_told : nodes ≡ map (node_in areas (walk_of areas)) (range_with_len 1 (length areas))
      nodes_told = (ok_from (placed order (length areas)) _ _ _ met).1 ∙ ap (λ ps. map (node_in areas ps) (range_with_len 1 (length areas))) order_told

      pub places_told : places_in nodes ≡ places_of areas
      places_told = ap places_in nodes_told ∙ map-map (λ (n : Node). n.place) (node_in areas (walk_of areas)) (range_with_len 1 (length areas))

      pub areas_told : areas_in nodes ≡ areas
      areas_told = ap areas_in nodes_told ∙ map-map (λ (n : Node). n.area) (node_in areas (walk_of areas)) (range_with_len 1 (length areas)) ∙ each_area areas

      pub is_tree_lem : is_tree areas ≡ true
      unfolding is_tree
      is_tree_lem = and_from _ _ told.0 (ap (λ ps. placed ps (length areas)) (sym order_told) ∙ (ok_from (placed order (length areas)) _ _ _ met).0)

      pub slots_refused : (i : ℕ) → Some i ≡ first_wrong (λ i. slots_right (area_at areas i)) 1 (length areas) → check_tree areas ≡ Err (Slots i)
      slots_refused i e = cond-true _ _ _ is_tree_lem ∙ ap (slots_checked areas) (sym e)

      module _ (right : None ≡ first_wrong (λ i. slots_right (area_at areas i)) 1 (length areas)) where
        pub total_refused : 1024 < slots → check_tree areas ≡ Err TooManySlots
        total_refused l = cond-true _ _ _ is_tree_lem ∙ ap (slots_checked areas) (sym right) ∙ cond-false _ _ _ (lt-leb _ _ (subst (λ x. 1024 < x) slots_told l))

        pub plan_read : slots ≤ 1024 → check_tree areas ≡ Ok areas
        plan_read l = cond-true _ _ _ is_tree_lem ∙ ap (slots_checked areas) (sym right) ∙ cond-true _ _ _ (le-leb _ _ (subst (λ x. x ≤ 1024) slots_told l))

-- a refusal that is handed on: what lays down the one lays down the other
pub handed_on : {X Y Z : Type 0} (view : X → Y) (due : Result Z Refusal) (due' : Result Y Refusal) (r : Result X Refusal) (y e : Refusal) → r ≡ Err y → y ≡ e → (due ≡ Err e → due' ≡ Err e) → IfSome (refusal_number e) (λ _. due ≡ Err e) → Answers view due' r
handed_on view due due' r y e p q f c = subst (Answers view due') (sym (p ∙ ap (λ x. Err x) q)) (on (refusal_number e) c)
  where
    on : (o : Option ℕ) → IfSome o (λ _. due ≡ Err e) → IfSome o (λ _. due' ≡ Err e)
    on None c = tt
    on (Some n) c = f c

pub tables_refused : (areas : List Area) (e : Refusal) → check_tree areas ≡ Err e → tables_of areas ≡ Err e
tables_refused areas e h = ap (tables_if areas) h

pub tree_refused : (areas : List Area) (e : Refusal) → tables_of areas ≡ Err e → check_tree areas ≡ Err e
tree_refused areas e h = from (check_tree areas) h
  where
    from : (r : Result (List Area) Refusal) → tables_if areas r ≡ Err e → r ≡ Err e
    from (Ok a) h = absurd (grind (arith, h))
    from (Err d) h = ap (λ x. Err x) (cc)

-- tables there are only of a plan
module _ (areas : List Area) (tables : List Place × List ℕ) (made : tables_of areas ≡ Ok tables) where
  tree_told : (is_tree areas ≡ true) × (first_wrong (λ i. slots_right (area_at areas i)) 1 (length areas) ≡ None) × (leb (slots_in areas (walk_of areas)) 1024 ≡ true)
  tree_told = outer (is_tree areas) made
    where
      inner : (o : Option ℕ) → tables_if areas (slots_checked areas o) ≡ Ok tables → (o ≡ None) × (leb (slots_in areas (walk_of areas)) 1024 ≡ true)
      inner (Some i) h = absurd (grind (arith, h))
      inner None h = (refl, last (leb (slots_in areas (walk_of areas)) 1024) h)
        where
          last : (b : Bool) → tables_if areas (cond b (Ok areas) (Err TooManySlots)) ≡ Ok tables → b ≡ true
          last true h = refl
          last false h = absurd (grind (arith, h))

      outer : (b : Bool) → tables_if areas (cond b (slots_checked areas (first_wrong (λ i. slots_right (area_at areas i)) 1 (length areas))) (Err NotATree)) ≡ Ok tables → (b ≡ true) × (first_wrong (λ i. slots_right (area_at areas i)) 1 (length areas) ≡ None) × (leb (slots_in areas (walk_of areas)) 1024 ≡ true)
      outer true h = let p = inner _ h in (refl, p.0, p.1)
      outer false h = absurd (grind (arith, h))

  pub tree_read : check_tree areas ≡ Ok areas
  tree_read = cond-true _ _ _ tree_told.0 ∙ ap (slots_checked areas) tree_told.1 ∙ cond-true _ _ _ tree_told.2

  pub tables_told : tables ≡ (places_of areas, homes_of areas)
  tables_told = let e : Ok (places_of areas, homes_of areas) ≡ Ok tables = sym (ap (tables_if areas) tree_read) ∙ made in cc

  pub plan_sound : numbered 64 (length areas) ≡ true → every (λ i. area_in_range (length areas) i (area_at areas i)) (range_with_len 1 (length areas)) ≡ true → is_plan areas ≡ true
  unfolding is_plan
  plan_sound few range =
      and_from _ _ few (and_from _ _ range (and_from _ _ tree_told.0 (and_from _ _ (every_from_none (λ i. slots_right (area_at areas i)) 1 (length areas) tree_told.1) tree_told.2)))

-- what is read of the row settles the rest
pub due_refused : (bytes : List ℕ) (e : Refusal) → areas_read bytes ≡ Err e → read_plan bytes ≡ Err e
unfolding read_plan
due_refused bytes e = settled (good_length (length bytes))
  where
    settled : (b : Bool) → cond b (read_records bytes (length bytes / 6)) (Err Length) ≡ Err e → cond b (and_then (read_records bytes (length bytes / 6)) check_tree) (Err Length) ≡ Err e
    settled true h = ap (λ r. and_then r check_tree) h
    settled false h = h

pub due_read : (bytes : List ℕ) (areas : List Area) → areas_read bytes ≡ Ok areas → read_plan bytes ≡ check_tree areas
unfolding read_plan
due_read bytes areas = settled (good_length (length bytes))
  where
    settled : (b : Bool) → cond b (read_records bytes (length bytes / 6)) (Err Length) ≡ Ok areas → cond b (and_then (read_records bytes (length bytes / 6)) check_tree) (Err Length) ≡ check_tree areas
    settled true h = ap (λ r. and_then r check_tree) h
    settled false h = absurd (grind (arith, h))

-- what the records tell of the areas that are read of them
module _ (bytes : List ℕ) (good : good_length (length bytes) ≡ true) (areas : List Area) (read : read_records bytes (length bytes / 6) ≡ Ok areas) where
  records_told : (first_wrong (record_in_range bytes (length bytes / 6)) 1 (length bytes / 6) ≡ None) × (areas ≡ areas_of bytes (length bytes / 6))
  records_told = from (first_wrong (record_in_range bytes (length bytes / 6)) 1 (length bytes / 6)) read
    where
      from : (o : Option ℕ) → records_read bytes (length bytes / 6) o ≡ Ok areas → (o ≡ None) × (areas ≡ areas_of bytes (length bytes / 6))
      from None h = (refl, cc)
      from (Some i) h = absurd (grind (arith, h))

  pub count_told : length areas ≡ length bytes / 6
  count_told = ap length records_told.1 ∙ length-map-range_with_len (area_of bytes) 1 (length bytes / 6)

  pub few_told : numbered 64 (length areas) ≡ true
  few_told =
      let p = and_parts (eqb (length bytes % 6) 0) (leb 6 (length bytes) && leb (length bytes) 384) good in
      let q = and_parts (leb 6 (length bytes)) (leb (length bytes) 384) p.1 in
      let low : 1 ≤ length bytes / 6 = omega (arith, leb-true _ _ q.0) in
      let high : length bytes / 6 ≤ 64 = omega (arith, leb-true _ _ q.1) in
      rw count_told (and_from _ _ (le-leb _ _ low) (le-leb _ _ high))

  -- each area is what its record describes, and in range
  module _ (i : ℕ) (t : numbered (length areas) i ≡ true) where
    pub field_told : area_at areas i ≡ area_of bytes i
    field_told =
        let q = numbered_parts (length areas) i t in
        ap (λ xs. area_at xs i) records_told.1 ∙ get_or-map-range_with_len (area_of bytes) 1 (length bytes / 6) (place i) i _ (omega (arith, count_told)) (omega arith)

    pub right_told : record_in_range bytes (length bytes / 6) i ≡ true
    right_told =
        let n = length bytes / 6 in
        each_number (record_in_range bytes n) n (every_from_none (record_in_range bytes n) 1 n records_told.0) i (subst (λ m. numbered m i ≡ true) count_told t)

  pub range_told : every (λ i. area_in_range (length areas) i (area_at areas i)) (range_with_len 1 (length areas)) ≡ true
  range_told = number_each (λ i. area_in_range (length areas) i (area_at areas i)) (length areas) (λ i t. rw (count_told, field_told i t) (and_parts _ _ (right_told i t)).1)
