use Rattle.std.proofs.Common.{◌≡◌, take}
use Rattle.plan.specs.Nodes.{places_in}
use Rattle.plan.specs.Tree.{homes_in}
use Rattle.plan.proofs.tree.Walk.homes.Given as goal

abbrev pub invariant-loop-node : goal.invariant-loop-node
invariant-loop-node l = l.homes.items ≡ homes_in l.self.areas.now (take l.node-index (places_in l.self.met.items))
