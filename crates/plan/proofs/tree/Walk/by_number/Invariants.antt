use Rattle.std.proofs.Common.{length, is_some}
use Rattle.plan.specs.Nodes.{places_in, node_in}
use Rattle.plan.specs.Tree.{only_place}
use Rattle.plan.proofs.Firsts.{Tried}
use Rattle.plan.proofs.tree.Walk.by_number.Given as goal

abbrev pub invariant-loop-number : goal.invariant-loop-number
invariant-loop-number l =
    let places = places_in l.self.met.items in
    Tried (λ i. is_some (only_place places i)) (node_in l.self.areas.now places) (length l.self.areas.now) l.number l.nodes.items
