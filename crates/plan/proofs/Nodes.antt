-- Nodes: areas with the places where the walk meets them.
use Rattle.std.proofs.Common.{◌≡◌, ℕ, ◌+◌, ◌<◌, ◌≤◌, ◌&&◌, true, false, List, [], ◌∷◌, ◌++◌, map, cond, length, get_or, set, drop, is_some, unwrap_or, IfSome, Option, Some, None, sym, refl, ap, ◌∙◌, arith}
use Rattle.std.proofs.lemmas.List.{length-map, map-append, map-set, get_or-map, at_drop_more, at_drop_all}
use Rattle.plan.specs.declared.area.Area.{Area}
use Rattle.plan.specs.declared.area.Node.{Node}
use Rattle.plan.specs.declared.area.Place.{Place}
use Rattle.std.specs.List.{list_all}
use Rattle.std.proofs.lemmas.Bool.{eq-eqb, ne_eqb, cond-true, cond-false}
use Rattle.plan.specs.Tree.{node_fits, every, fits, unmet, only_place, place_in, nowhere}
use Rattle.plan.specs.Nodes.{areas_in, places_in, own_area, node_in}
use Rattle.plan.specs.Walk.{area_at}

-- what a list of nodes has past its end
abbrev pub no_node : Node
no_node = record { area = record { level = 0; child = 0; next = 0; slots = 0 }; place = nowhere }

pub places_count : (nodes : List Node) → length (places_in nodes) ≡ length nodes
places_count nodes = length-map nodes (λ (n : Node). n.place)

-- the place of a node that is put last
pub places_push : (nodes : List Node) (n : Node) → places_in (nodes ++ (n ∷ [])) ≡ places_in nodes ++ (n.place ∷ [])
places_push nodes n = map-append (λ (m : Node). m.place) nodes (n ∷ [])

-- each node has the area that its place's number names
abbrev pub Own : List Area → List Node → Type 0
Own areas nodes = areas_in nodes ≡ map (own_area areas) nodes

module _ (areas : List Area) (nodes : List Node) (own : Own areas nodes) where
  pub own_at : (i : ℕ) (d : Node) → i < length nodes → (get_or nodes i d).area ≡ own_area areas (get_or nodes i d)
  own_at i d l =
      sym (get_or-map (λ (n : Node). n.area) nodes i d d.area l) ∙ ap (λ xs. get_or xs i d.area) own ∙ get_or-map (own_area areas) nodes i d d.area l

  pub own_push : (n : Node) → n.area ≡ own_area areas n → Own areas (nodes ++ (n ∷ []))
  own_push n e =
      map-append (λ (m : Node). m.area) nodes (n ∷ []) ∙ ap (λ xs. xs ++ (n.area ∷ [])) own ∙ ap (λ a. map (own_area areas) nodes ++ (a ∷ [])) e ∙ sym (map-append (own_area areas) nodes (n ∷ []))

  pub own_set : (i : ℕ) (n : Node) → n.area ≡ own_area areas n → Own areas (set nodes i n)
  own_set i n e =
      map-set (λ (m : Node). m.area) nodes i n ∙ ap (λ xs. set xs i n.area) own ∙ ap (λ a. set (map (own_area areas) nodes) i a) e ∙ sym (map-set (own_area areas) nodes i n)

-- nodes that have their own areas stand right just where their places fit
pub fits_all : (areas : List Area) (nodes : List Node) → Own areas nodes → list_all node_fits nodes ≡ every (fits areas) (places_in nodes)
fits_all areas [] own = refl
fits_all areas (n ∷ ns) own =
    let here : n.area ≡ own_area areas n = own_at areas (n ∷ ns) own 0 n (omega arith) in
    let rest : Own areas ns = ap (drop 1) own in
    rw here (ap (λ b. fits areas n.place && b) (fits_all areas ns rest))

-- the one place of area i among the places of these nodes, where a node of its own was met before
abbrev carried : Option Node → List Node → ℕ → Option Place
carried None nodes i = only_place (places_in nodes) i
carried (Some n) nodes i = cond (unmet (places_in nodes) i) (Some n.place) None

-- what the first k nodes tell of the one node of area i: the node, where they have it
pub record Carries (areas : List Area) (nodes : List Node) (i k : ℕ) (o : Option Node) : Type 0 where
  told : only_place (places_in nodes) i ≡ carried o (drop k nodes) i
  own : IfSome o (λ n. n.area ≡ area_at areas i)

module _ (areas : List Area) (nodes : List Node) (own : Own areas nodes) (i : ℕ) where
  pub carries_none : Carries areas nodes i 0 None
  carries_none = record { told = refl; own = tt }

  module _ (k : ℕ) (d : Node) (l : k < length nodes) (o : Option Node) (c : Carries areas nodes i k o) where
    -- a node of another area
    pub carries_past : ((get_or nodes k d).place.area ≡ i → ⊥) → Carries areas nodes i (k + 1) o
    carries_past ne = record { told = c.told ∙ past o; own = c.own }
      where
        past : (o : Option Node) → carried o (drop k nodes) i ≡ carried o (drop (k + 1) nodes) i
        past None = at_drop_more (λ ns. carried None ns i) nodes k d l ∙ rw (ne_eqb (get_or nodes k d).place.area i ne)
        past (Some n) = at_drop_more (λ ns. carried (Some n) ns i) nodes k d l ∙ rw (ne_eqb (get_or nodes k d).place.area i ne)

    -- the first node of area i
    pub carries_here : (get_or nodes k d).place.area ≡ i → is_some o ≡ false → Carries areas nodes i (k + 1) (Some (get_or nodes k d))
    carries_here e none =
        let here : carried None (drop k nodes) i ≡ carried (Some (get_or nodes k d)) (drop (k + 1) nodes) i = at_drop_more (λ ns. carried None ns i) nodes k d l ∙ rw (eq-eqb (get_or nodes k d).place.area i e) in
        record { told = c.told ∙ ap (λ x. carried x (drop k nodes) i) (empty o none) ∙ here; own = own_at areas nodes own k d l ∙ ap (area_at areas) e }
      where
        empty : (o : Option Node) → is_some o ≡ false → o ≡ None
        empty None s = refl
        empty (Some n) s = absurd (grind (arith, s))

    -- the second node of area i
    pub carries_twice : (get_or nodes k d).place.area ≡ i → is_some o ≡ true → only_place (places_in nodes) i ≡ None
    carries_twice e some = c.told ∙ twice o some
      where
        twice : (o : Option Node) → is_some o ≡ true → carried o (drop k nodes) i ≡ None
        twice None s = absurd (grind (arith, s))
        twice (Some n) s = at_drop_more (λ ns. carried (Some n) ns i) nodes k d l ∙ rw (eq-eqb (get_or nodes k d).place.area i e)

  -- the node that area i has, where all nodes were met
  pub carries_all : (k : ℕ) (o : Option Node) → length nodes ≤ k → Carries areas nodes i k o → o ≡ cond (is_some (only_place (places_in nodes) i)) (Some (node_in areas (places_in nodes) i)) None
  carries_all k None l c =
      let none : only_place (places_in nodes) i ≡ None = c.told ∙ at_drop_all (λ ns. carried None ns i) nodes k l in
      sym (cond-false _ _ _ (ap is_some none))
  carries_all k (Some n) l c =
      let one : only_place (places_in nodes) i ≡ Some n.place = c.told ∙ at_drop_all (λ ns. carried (Some n) ns i) nodes k l in
      let place : place_in (places_in nodes) i ≡ n.place = ap (λ o. unwrap_or o nowhere) one in
      ap (λ m. Some m) (λ j. record { area = c.own j; place = sym place j }) ∙ sym (cond-true _ _ _ (ap is_some one))
