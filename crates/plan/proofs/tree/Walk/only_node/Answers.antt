use Rattle.std.proofs.Common.{◌+◌, ◌<◌, length, get_or, is_some, Some, sym, ap, ◌∙◌, subst, arith}
use Rattle.std.proofs.lemmas.Bool.{cond-false}
use Rattle.plan.proofs.Nodes.{Carries, carries_none, carries_past, carries_here, carries_twice, carries_all, no_node}
use Rattle.plan.proofs.tree.Walk.only_node.Goals as goal
use Rattle.plan.proofs.tree.Walk.only_node.Goals.{else-node-number-via-then-node-number+else-is_some, else-node-number-via-else-node-number}

pub loop-node-init : goal.loop-node-init
loop-node-init c = carries_none _ _ c.args.self.now.own _

pub loop-node-preserved : goal.loop-node-preserved
loop-node-preserved c =
    let w = c.args.self.now in
    let nodes = c.deref-node-items.ensures.value in
    let within : c.loop-node.node-index < length w.met.items = omega (arith, c.loop-node-test.true, ap length nodes) in
    elim c.else-node-number.branch [
      | else-node-number-via-then-node-number+else-is_some v ↦
          subst (Carries w.areas.now w.met.items c.args.number (c.loop-node.node-index + 1)) (sym (v.only-is ∙ v.replace.ensures.after ∙ ap (λ ns. Some (get_or ns c.loop-node.node-index no_node)) nodes))
          (carries_here w.areas.now w.met.items w.own c.args.number c.loop-node.node-index no_node within _ c.loop-node.invariant (rw nodes at v.if-node-number.true) (ap is_some (sym v.replace.ensures.value) ∙ sym v.is_some.ensures ∙ v.if-is_some.false))
      | else-node-number-via-else-node-number v ↦
          subst (Carries w.areas.now w.met.items c.args.number (c.loop-node.node-index + 1)) (sym v.only-is)
          (carries_past w.areas.now w.met.items w.own c.args.number c.loop-node.node-index no_node within _ c.loop-node.invariant (rw nodes at v.if-node-number.false))
    ]

pub returns-then-is_some : goal.returns-then-is_some
returns-then-is_some c =
    let w = c.args.self.now in
    let nodes = c.deref-node-items.ensures.value in
    let within : c.loop-node.node-index < length w.met.items = omega (arith, c.loop-node-test.true, ap length nodes) in
    let none = carries_twice w.areas.now w.met.items w.own c.args.number c.loop-node.node-index no_node within _ c.loop-node.invariant (rw nodes at c.if-node-number.true) (ap is_some (sym c.replace.ensures.value) ∙ sym c.is_some.ensures ∙ c.if-is_some.true) in
    sym (cond-false _ _ _ (ap is_some none))

pub returns : goal.returns
returns c = carries_all _ _ c.args.self.now.own _ _ _ (omega (arith, c.loop-node-test.false, ap length c.deref-node-items.ensures.value)) c.loop-node.invariant
