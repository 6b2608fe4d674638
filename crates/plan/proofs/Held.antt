-- What the tables of an accepted plan hold.
use Rattle.std.proofs.Common.{◌≡◌, ℕ, ◌<◌, ◌≤◌, true, List, length, get_or, sym, refl, ap, ◌∙◌, subst, arith}
use Rattle.std.proofs.lemmas.List.{length-map, get_or-map, get_or_read}
use Rattle.chain.specs.Chain.{place, numbered}
use Rattle.chain.proofs.Chains.{numbered_from, numbered_parts, place_within}
use Rattle.plan.specs.declared.area.Area.{Area}
use Rattle.plan.specs.declared.area.Node.{Node}
use Rattle.plan.specs.Accepted.{Accepted, node_of}
use Rattle.plan.specs.Nodes.{areas_in}
use Rattle.plan.specs.Plans.{is_plan, top_level, slot_count, place_of, homes_of, home_of}
use Rattle.plan.specs.Walk.{area_at, walk_of}
use Rattle.plan.proofs.Rules.{plan_rules}
use Rattle.plan.proofs.Asked.{length_homes, place_read, place_within_plan}

module _ (nodes : List Node) (homes : List ℕ) (a : Accepted nodes homes) where
  abbrev areas : List Area
  areas = areas_in nodes

  pub node_count : length nodes ≡ length areas
  node_count = sym (length-map nodes (λ (n : Node). n.area))

  pub nodes_few : (1 ≤ length nodes) × (length nodes ≤ 64)
  nodes_few = subst (λ k. (1 ≤ k) × (k ≤ 64)) (sym node_count) (numbered_parts 64 _ (plan_rules areas a.plan).few)

  pub slots_few : slot_count areas ≤ 1024
  slots_few = (plan_rules areas a.plan).total

  pub homes_count : length homes ≡ slot_count areas
  homes_count = ap length a.housed ∙ length_homes areas (walk_of areas)

  -- the node at an index of the table
  pub node_held : (i k : ℕ) (n : Node) → numbered (length nodes) i ≡ true → k ≡ place i → n ≡ get_or nodes k n → n ≡ node_of areas i
  node_held i k n t e r =
      let l : place i < length nodes = place_within (length nodes) i t in
      let read : n ≡ get_or nodes (place i) n = subst (λ j. n ≡ get_or nodes j n) e r in
      let own : n.area ≡ area_at areas i = ap (λ (m : Node). m.area) read ∙ sym (get_or-map (λ (m : Node). m.area) nodes (place i) n _ l) in
      let s : numbered (length areas) i ≡ true = subst (λ m. numbered m i ≡ true) node_count t in
      let met : n.place ≡ place_of areas i = ap (λ (m : Node). m.place) read ∙ sym (get_or-map (λ (m : Node). m.place) nodes (place i) n n.place l) ∙ ap (λ ps. get_or ps (place i) n.place) a.placed ∙ place_read areas i n.place s in
      λ j. record { area = own j; place = met j }

  -- and its slots are few
  pub node_few : (i : ℕ) (n : Node) → n ≡ node_of areas i → (n.place.before ≤ n.place.after) × (n.place.after ≤ 1024)
  node_few i n e =
      let w = place_within_plan areas i in
      subst (λ (m : Node). (m.place.before ≤ m.place.after) × (m.place.after ≤ 1024)) (sym e) (w.1, omega (arith, w.2, slots_few))

  -- the first node is the top area's
  pub first_held : (n : Node) → n ≡ get_or nodes 0 n → n ≡ node_of areas 1
  first_held n e = node_held 1 0 n (numbered_from (length nodes) 1 (omega arith) nodes_few.0) refl e

  pub top_range : (2 ≤ top_level areas) × (top_level areas ≤ 4)
  top_range = let rules = plan_rules areas a.plan in (rules.high, (rules.range 1 (numbered_from (length areas) 1 (omega arith) (omega (arith, node_count, nodes_few)))).1)

-- what callers see of the tables
pub accepted_told : (nodes : List Node) (homes : List ℕ) (seen : List Area) → Accepted nodes homes → areas_in nodes ≡ seen → is_plan seen ≡ true
accepted_told nodes homes seen a e = subst (λ xs. is_plan xs ≡ true) e a.plan

pub count_told : (nodes : List Node) (homes : List ℕ) (seen : List Area) → Accepted nodes homes → areas_in nodes ≡ seen → (length nodes ≡ length seen) × (length nodes ≤ 64)
count_told nodes homes seen a e = (node_count nodes homes a ∙ ap length e, (nodes_few nodes homes a).1)

pub total_told : (nodes : List Node) (homes : List ℕ) (seen : List Area) → Accepted nodes homes → areas_in nodes ≡ seen → (length homes ≡ slot_count seen) × (length homes ≤ 1024)
total_told nodes homes seen a e = (homes_count nodes homes a ∙ ap slot_count e, omega (arith, homes_count nodes homes a, slots_few nodes homes a))

pub top_told : (nodes : List Node) (homes : List ℕ) (seen : List Area) → Accepted nodes homes → areas_in nodes ≡ seen → (n : Node) → n ≡ get_or nodes 0 n → (n.area.level ≡ top_level seen) × (2 ≤ n.area.level) × (n.area.level ≤ 4)
top_told nodes homes seen a e n read =
    let held = ap (λ (m : Node). m.area.level) (first_held nodes homes a n read) in
    let range = top_range nodes homes a in
    (held ∙ ap top_level e, omega (arith, held, range), omega (arith, held, range))

pub home_told : (nodes : List Node) (homes : List ℕ) (seen : List Area) → Accepted nodes homes → areas_in nodes ≡ seen → (slot k x : ℕ) → k ≡ place slot → k < length homes → x ≡ get_or homes k x → x ≡ home_of seen slot
home_told nodes homes seen a e slot k x p l read =
    get_or_read homes k x l read 0 ∙ ap (λ i. get_or homes i 0) p ∙ ap (λ xs. get_or xs (place slot) 0) (a.housed ∙ ap homes_of e)

pub node_told : (nodes : List Node) (homes : List ℕ) (seen : List Area) → Accepted nodes homes → areas_in nodes ≡ seen → (i k : ℕ) (n : Node) → k ≡ place i → numbered (length seen) i ≡ true → n ≡ get_or nodes k n → (n ≡ node_of seen i) × (n.place.before ≤ n.place.after) × (n.place.after ≤ 1024)
node_told nodes homes seen a e i k n p t read =
    let here : numbered (length nodes) i ≡ true = subst (λ m. numbered m i ≡ true) (sym (node_count nodes homes a ∙ ap length e)) t in
    let held = node_held nodes homes a i k n here p read in
    let few = node_few nodes homes a i n held in
    (held ∙ ap (λ xs. node_of xs i) e, few.0, few.1)
