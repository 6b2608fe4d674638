use Rattle.plan.proofs.Nodes.{Carries}
use Rattle.plan.proofs.tree.Walk.only_node.Given as goal

abbrev pub invariant-loop-node : goal.invariant-loop-node
invariant-loop-node l = Carries l.self.areas.now l.self.met.items l.number l.node-index l.only
