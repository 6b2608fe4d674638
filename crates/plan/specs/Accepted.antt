-- What the tables of an accepted plan are.
use Rattle.std.specs.Prelude.{◌≡◌, ℕ, true, List}
use Rattle.plan.specs.declared.area.Area.{Area}
use Rattle.plan.specs.declared.area.Node.{Node}
use Rattle.plan.specs.Nodes.{areas_in, places_in, node_in}
use Rattle.plan.specs.Plans.{is_plan, places_of, homes_of}
use Rattle.plan.specs.Walk.{walk_of}

-- Area i of a plan and where the walk meets it.
abbrev pub node_of : List Area → ℕ → Node
node_of areas i = node_in areas (walk_of areas) i

-- The tables of an accepted plan.
pub record Accepted (nodes : List Node) (homes : List ℕ) : Type 0 where
  -- the areas keep the rules of a plan
  pub plan : is_plan (areas_in nodes) ≡ true
  -- each area has its own place in the walk
  pub placed : places_in nodes ≡ places_of (areas_in nodes)
  -- each slot has its lowest area
  pub housed : homes ≡ homes_of (areas_in nodes)
