-- The homes of the slots, a node at a time.
use Rattle.std.proofs.Common.{◌≡◌, ℕ, ◌+◌, ◌-◌, ◌<◌, List, [], ◌++◌, length, get_or, take, replicate, sym, ap, ◌∙◌, arith}
use Rattle.std.specs.List.{flat_map}
use Rattle.std.proofs.lemmas.List.{take_all, take_more, flat_map_more, get_or-map, length-map}
use Rattle.plan.specs.declared.area.Area.{Area}
use Rattle.plan.specs.declared.area.Node.{Node}
use Rattle.plan.specs.declared.area.Place.{Place}
use Rattle.plan.specs.Nodes.{places_in}
use Rattle.plan.specs.Walk.{area_at}
use Rattle.plan.specs.Tree.{homes_in}
use Rattle.plan.proofs.Nodes.{Own, own_at}

-- a list that is filled up with copies of x
pub filled : (xs ys : List ℕ) (n more x : ℕ) → n ≡ length xs → ys ≡ take (n + more) xs ++ replicate (n + more - n) x → ys ≡ xs ++ replicate more x
filled xs ys n more x e p =
    let same : n + more - n ≡ more = omega arith in
    p ∙ ap (λ k. take (n + more) xs ++ replicate k x) same ∙ ap (λ zs. zs ++ replicate more x) (take_all (n + more) xs (omega (arith, e)))

pub homes_more : (areas : List Area) (nodes : List Node) → Own areas nodes → (i : ℕ) (d : Node) (homes homes' : List ℕ) → i < length nodes → homes ≡ homes_in areas (take i (places_in nodes)) → homes' ≡ homes ++ replicate (get_or nodes i d).area.slots (get_or nodes i d).place.area → homes' ≡ homes_in areas (take (i + 1) (places_in nodes))
homes_more areas nodes own i d homes homes' l e p =
    let f : Place → List ℕ = λ q. replicate (area_at areas q.area).slots q.area in
    let n = get_or nodes i d in
    let read : n.place ≡ get_or (places_in nodes) i d.place = sym (get_or-map (λ (m : Node). m.place) nodes i d d.place l) in
    let inside : i < length (places_in nodes) = omega (arith, l, length-map nodes (λ (m : Node). m.place)) in
    p ∙ ap (λ (a : Area). homes ++ replicate a.slots n.place.area) (own_at areas nodes own i d l) ∙ ap (λ xs. xs ++ f n.place) e
    ∙ ap (λ q. homes_in areas (take i (places_in nodes)) ++ f q) read ∙ flat_map_more f [] (take i (places_in nodes)) (get_or (places_in nodes) i d.place) ∙ ap (flat_map f) (sym (take_more (places_in nodes) i d.place inside))
