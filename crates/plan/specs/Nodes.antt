-- Areas with the places where the walk meets them.
use Rattle.std.specs.Prelude.{ℕ, cond, List, map, length, is_some, Some, None, Ok, Err, Option, Result}
use Rattle.std.specs.List.{range_with_len}
use Rattle.plan.specs.declared.area.Area.{Area}
use Rattle.plan.specs.declared.area.Node.{Node}
use Rattle.plan.specs.declared.area.Place.{Place}
use Rattle.plan.specs.declared.refusal.Refusal.{Refusal}
use Rattle.plan.specs.declared.refusal.Refusal.TheVariants.{NotATree}
use Rattle.plan.specs.Tree.{every, only_place, place_in}
use Rattle.plan.specs.Walk.{area_at}

-- The areas of a table of nodes.
abbrev pub areas_in : List Node → List Area
areas_in nodes = map (λ n. n.area) nodes

-- The places of a table of nodes.
abbrev pub places_in : List Node → List Place
places_in nodes = map (λ n. n.place) nodes

-- The area whose number a node's place has.
abbrev pub own_area : List Area → Node → Area
own_area areas n = area_at areas n.place.area

-- Area i, and the place where a walk meets it.
abbrev pub node_in : List Area → List Place → ℕ → Node
node_in areas ps i = record { area = area_at areas i; place = place_in ps i }

-- The one area that a walk meets under number i; none where it meets none, or meets it twice.
abbrev pub node_met : List Area → List Place → ℕ → Option Node
node_met areas ps i = cond (is_some (only_place ps i)) (Some (node_in areas ps i)) None

-- The areas by number, each having just one place.
abbrev pub nodes_met : List Area → List Place → Result (List Node) Refusal
nodes_met areas ps = cond (every (λ i. is_some (only_place ps i)) (range_with_len 1 (length areas))) (Ok (map (node_in areas ps) (range_with_len 1 (length areas)))) (Err NotATree)
