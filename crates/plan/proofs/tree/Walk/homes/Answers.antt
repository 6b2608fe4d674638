use Rattle.std.proofs.Common.{◌≡◌, ◌+◌, ◌-◌, ◌++◌, length, get_or, take, replicate, sym, ap, ◌∙◌, arith}
use Rattle.std.proofs.lemmas.List.{take_all}
use Rattle.plan.specs.Nodes.{places_in}
use Rattle.plan.specs.Tree.{homes_in}
use Rattle.plan.proofs.Homes.{filled, homes_more}
use Rattle.plan.proofs.Nodes.{places_count, no_node}
use Rattle.plan.proofs.tree.Walk.homes.Goals as goal

pub loop-node-preserved : goal.loop-node-preserved
loop-node-preserved c =
    let w = c.args.self.now in
    let nodes = c.deref-node-items.ensures.value in
    let i = c.loop-node.node-index in
    let homes = c.loop-node.homes in
    let n = get_or w.met.items i no_node in
    let slots : c.from.result ≡ n.area.slots = c.from.ensures ∙ ap (λ ns. (get_or ns i no_node).area.slots) nodes in
    let own : c.resize.new.self.items ≡ homes.items ++ replicate c.from.result (get_or c.deref-node-items.result.now i no_node).place.area = filled homes.items c.resize.new.self.items c.len.result c.from.result _ (c.len.ensures ∙ homes.ok.0) (c.in_ok-resize.ensures.items ∙ ap (λ k. take (c.len.result + c.from.result) homes.items ++ replicate (c.len.result + c.from.result - k) (get_or c.deref-node-items.result.now i no_node).place.area) (sym c.len.ensures)) in
    homes_more w.areas.now w.met.items w.own i no_node homes.items c.resize.new.self.items (omega (arith, c.loop-node-test.true, ap length nodes)) c.loop-node.invariant
    (own ∙ ap (λ k. homes.items ++ replicate k (get_or c.deref-node-items.result.now i no_node).place.area) slots ∙ ap (λ ns. homes.items ++ replicate n.area.slots (get_or ns i no_node).place.area) nodes)

pub returns : goal.returns
returns c =
    let w = c.args.self.now in
    c.loop-node.invariant ∙ ap (homes_in w.areas.now) (take_all _ (places_in w.met.items) (omega (arith, c.loop-node-test.false, places_count w.met.items, ap length c.deref-node-items.ensures.value)))
