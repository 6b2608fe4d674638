use Rattle.std.proofs.Common.{◌≡◌, ℕ, ◌+◌, length, is_some, Ok, Err, List, sym, ap, ◌∙◌, subst, arith}
use Rattle.std.proofs.lemmas.Bool.{cond-true, cond-false}
use Rattle.std.proofs.lemmas.Result.{err_from_is_err_and}
use Rattle.plan.specs.declared.area.Area.{Area}
use Rattle.plan.specs.declared.area.Node.{Node}
use Rattle.plan.specs.declared.area.Place.{Place}
use Rattle.plan.specs.Answers.{Answers}
use Rattle.plan.specs.Nodes.{places_in, node_in, nodes_met}
use Rattle.plan.specs.Tree.{only_place}
use Rattle.plan.proofs.Conds.{ok_or_ok, ok_or_err}
use Rattle.plan.proofs.Firsts.{every_from_none, every_from_some, Tried, tried_none, tried_more, tried_wrong, tried_all}
use Rattle.plan.proofs.tree.Walk.by_number.Goals as goal
use Rattle.plan.proofs.tree.Walk.by_number.Goals.{else-loop-number-test, then-loop-number-test+in_ok-ok_or+in_ok-push+else-number-number-end}

pub loop-number-init : goal.loop-number-init
loop-number-init c = rw c.new-nodes.ensures.items (tried_none _ _ _)

pub returns-in_err-ok_or : goal.returns-in_err-ok_or
returns-in_err-ok_or c =
    let w = c.args.self.now in
    let p = err_from_is_err_and c.from_residual.result c.from_residual.ensures.1 in
    let q = ok_or_err _ _ _ _ c.only_node.result c.in_err-ok_or.ensures.value c.only_node.ensures in
    subst (Answers _ _) (sym (p.1 ∙ ap (λ x. Err x) (p.2 ∙ q.1))) (cond-false _ _ _ (every_from_some (λ i. is_some (only_place (places_in w.met.items) i)) 1 (length w.areas.now) _ (tried_wrong _ _ _ _ _ c.loop-number.invariant c.loop-number-test.true q.0)))

pub loop-number-preserved : goal.loop-number-preserved
loop-number-preserved c =
    let q = ok_or_ok _ _ _ _ c.only_node.result c.in_ok-ok_or.ensures.value c.only_node.ensures in
    tried_more _ _ _ _ _ c.loop-number.invariant _ _ c.loop-number.auto.number c.loop-number-test.true q.0 c.in_ok-push.ensures.items q.1

-- where all numbers passed, the nodes that were made are due
all_met : (areas : List Area) (places : List Place) (made nodes : List Node) (number : ℕ) → number ≡ length areas + 1 → Tried (λ i. is_some (only_place places i)) (node_in areas places) (length areas) number nodes → made ≡ nodes → nodes_met areas places ≡ Ok made
all_met areas places made nodes number e t o = let a = tried_all _ _ _ nodes number e t in cond-true _ _ _ (every_from_none (λ i. is_some (only_place places i)) 1 (length areas) a.0) ∙ ap (λ x. Ok x) (sym (o ∙ a.1))

pub returns : goal.returns
returns c =
    let w = c.args.self.now in
    let places = places_in w.met.items in
    elim c.loop-number-test.branch [
      | else-loop-number-test v ↦ all_met w.areas.now places _ c.loop-number.nodes.items c.loop-number.number (omega (arith, v.loop-number-test.false, c.loop-number.invariant.within, c.loop-number.auto)) c.loop-number.invariant (ap (λ n. n.items) v.nodes-is)
      | then-loop-number-test+in_ok-ok_or+in_ok-push+else-number-number-end v ↦
          let q = ok_or_ok _ _ _ _ v.only_node.result v.in_ok-ok_or.ensures.value v.only_node.ensures in
          all_met w.areas.now places _ v.push.new.self.items (c.loop-number.number + 1) (omega arith) (tried_more _ _ _ _ _ c.loop-number.invariant _ _ c.loop-number.auto.number v.loop-number-test.true q.0 v.in_ok-push.ensures.items q.1) (ap (λ n. n.items) v.nodes-is)
    ]
