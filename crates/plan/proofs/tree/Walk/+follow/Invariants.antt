use Rattle.std.proofs.Common.{◌≡◌, ◌+◌, ◌-◌, length}
use Rattle.plan.specs.Nodes.{places_in}
use Rattle.plan.specs.Walk.{Walked, along, walk_from}
use Rattle.plan.proofs.tree.Walk.+follow.Given as goal

abbrev pub decreases-follow : goal.decreases-follow
decreases-follow l = l.level

abbrev pub invariant-loop : goal.invariant-loop
invariant-loop l =
    let start = l.initial.self in
    let areas = start.areas.now in
    record {
      same : l.self.areas ≡ start.areas;
      walked : Walked areas (walk_from areas l.level l.parent l.first start.slots) start.slots (places_in start.met.items)
          (along areas (walk_from areas (l.level - 1)) l.level l.parent (length areas + 1 - l.counter) l.at l.self.slots)
          l.self.slots (places_in l.self.met.items);
    }
