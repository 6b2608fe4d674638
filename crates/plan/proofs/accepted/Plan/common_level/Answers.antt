use Rattle.std.proofs.Common.{◌≡◌, ◌+◌, ◌-◌, Some, sym, ap, ◌∙◌, arith}
use Rattle.std.proofs.lemmas.Bool.{and_from, cond-true}
use Rattle.plan.specs.Plans.{meet_from, top_level, parent_of}
use Rattle.plan.proofs.Asked.{meet_none, meet_here, meet_more}
use Rattle.plan.proofs.accepted.Plan.common_level.Goals as goal

pub returns-then-over_x-over_y : goal.returns-then-over_x-over_y
returns-then-over_x-over_y c =
    ap (λ l. Some l) (sym (c.loop-level.invariant ∙ meet_here c.args.self.now _ _ _ _ c.if-over_x-over_y.true))
    ∙ sym (cond-true _ _ _ (and_from _ _ (sym c.if-not-is_lowest.ensures) (sym c.if-not-is_lowest-2.ensures)))

pub loop-level-preserved : goal.loop-level-preserved
loop-level-preserved c =
    let areas = c.args.self.now in
    let left = top_level areas - (c.loop-level.level + 1) in
    c.loop-level.invariant
    ∙ meet_more areas _ left _ _ _ (omega (arith, c.loop-level-test.true, c.top_level-level-end.ensures.answer)) c.if-over_x-over_y.false
    ∙ ap (λ x. meet_from (parent_of areas) left (c.loop-level.level + 1) x (parent_of areas c.loop-level.over_y)) (sym c.parent-over_x.ensures)
    ∙ ap (λ y. meet_from (parent_of areas) left (c.loop-level.level + 1) c.parent-over_x.result y) (sym c.parent-over_y.ensures)

pub returns : goal.returns
returns c =
    let areas = c.args.self.now in
    let last : c.loop-level.level ≡ top_level areas = omega (arith, c.loop-level-test.false, c.loop-level.auto.level-end, c.top_level-level-end.ensures) in
    ap (λ l. Some l) (c.top_level.ensures.answer ∙ sym last ∙ sym (c.loop-level.invariant ∙ meet_none areas _ _ _ _ (omega (arith, last))))
    ∙ sym (cond-true _ _ _ (and_from _ _ (sym c.if-not-is_lowest.ensures) (sym c.if-not-is_lowest-2.ensures)))
