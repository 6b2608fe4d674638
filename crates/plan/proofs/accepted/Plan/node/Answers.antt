use Rattle.std.proofs.Common.{◌≡◌, true, length, ◌∙◌, subst}
use Rattle.chain.specs.Chain.{numbered}
use Rattle.plan.proofs.Held.{count_told, node_told}
use Rattle.plan.proofs.accepted.Plan.node.Goals as goal

pub returns-clause-few : goal.returns-clause-few
returns-clause-few c =
    let seen = c.args.self.now in
    let count = c.len.ensures ∙ c.self.inside.nodes.ok.0 ∙ (count_told _ _ seen c.self.invariant c.self.view_is).0 in
    let here : numbered (length seen) c.args.i ≡ true = subst (λ n. numbered n c.args.i ≡ true) count c.in_ok-k.ensures.0 in
    let told = node_told _ _ seen c.self.invariant c.self.view_is c.args.i c.in_ok-k.k c.index.result.now c.in_ok-k.ensures.1 here c.index.ensures in
    (told.1, told.2)
