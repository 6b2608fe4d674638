use Rattle.std.proofs.Common.{rules, tests, ◌-◌, Some, refl, sym, ap, ◌∙◌, arith}
use Rattle.std.proofs.lemmas.Bool.{and_from, cond-true, le-leb}
use Rattle.std.proofs.lemmas.Iterator.{YieldsList-from_range}
use Rattle.std.proofs.lemmas.Iterator.Consumers.{fold_from_yields_List}
use Rattle.plan.specs.Plans.{parent_of, top_level}
use Rattle.plan.proofs.Asked.{climb_folds}
use Rattle.plan.proofs.accepted.Plan.area_over.Goals as goal

pub returns : goal.returns
returns c =
    let areas = c.args.self.now in
    let level = c.args.level in
    let folded = fold_from_yields_List _ (λ over _. parent_of areas over) c.args.i c.fold.result c.fold.ensures.ran (YieldsList-from_range 1 level (level - 1) refl refl) (λ a x b q k. search (rules, tests)) in
    ap (λ x. Some x) (folded ∙ climb_folds (parent_of areas) (level - 1) 1 c.args.i)
    ∙ sym (cond-true _ _ _ (and_from _ _ (sym c.if-not-is_lowest.ensures) (and_from _ _ (le-leb 1 level (omega (arith, c.if-level-eq0.false))) (le-leb level (top_level areas) (omega (arith, c.if-level-top_level.false, c.top_level.ensures.answer))))))
