use Rattle.std.proofs.Common.{◌≡◌, true, Ok, sym, ap, ◌∙◌, subst}
use Rattle.std.proofs.lemmas.Result.{err_from_is_err_and, IfOk-from_err}
use Rattle.plan.specs.Plans.{is_plan, places_of, homes_of, tables_of}
use Rattle.plan.specs.Reading.{areas_read}
use Rattle.plan.proofs.Parts.{handed_on, due_refused, due_read, tree_refused, tree_read, tables_told, plan_sound}
use Rattle.plan.proofs.TreeLaws.{tree_laws}
use Rattle.plan.proofs.Trees.{accepted_exactly_trees}
use Rattle.plan.proofs.accepted.Plan.read.Goals as goal

pub returns-in_err-records : goal.returns-in_err-records
returns-in_err-records c =
    let bytes = c.args.bytes.now in
    let p = err_from_is_err_and c.from_residual.result c.from_residual.ensures.1 in
    record {
      answer = handed_on _ (areas_read bytes) _ _ p.0 c.in_err-records.field-0.0 p.1 p.2 (due_refused bytes _) c.in_err-records.ensures;
      laws = IfOk-from_err _ _ c.from_residual.ensures.0;
      tree = accepted_exactly_trees bytes;
    }

pub returns-in_err-nodes : goal.returns-in_err-nodes
returns-in_err-nodes c =
    let bytes = c.args.bytes.now in
    let areas = c.in_ok-records.records.areas.items in
    let p = err_from_is_err_and c.from_residual-in_err-nodes.result c.from_residual-in_err-nodes.ensures.1 in
    record {
      answer =
          handed_on _ (tables_of areas) _ _ p.0 c.in_err-nodes.field-0.0 p.1 p.2
          (λ e. due_read bytes areas c.in_ok-records.ensures ∙ tree_refused areas _ e) c.in_err-nodes.ensures.answer;
      laws = IfOk-from_err _ _ c.from_residual-in_err-nodes.ensures.0;
      tree = accepted_exactly_trees bytes;
    }

pub invariant_of-result : goal.invariant_of-result
invariant_of-result c =
    let records = c.in_ok-records.records in
    let areas = records.areas.items in
    let made = c.in_ok-nodes.ensures.answer in
    let told = tables_told areas _ made in
    let own = sym c.in_ok-nodes.ensures.own in
    record {
      plan = subst (λ xs. is_plan xs ≡ true) own (plan_sound areas _ made records.few records.in_range);
      placed = ap (λ t. t.0) told ∙ ap places_of own;
      housed = ap (λ t. t.1) told ∙ ap homes_of own;
    }

pub returns : goal.returns
returns c =
    let bytes = c.args.bytes.now in
    let records = c.in_ok-records.records in
    let areas = records.areas.items in
    let made = c.in_ok-nodes.ensures.answer in
    let own = sym c.in_ok-nodes.ensures.own in
    record {
      answer = due_read bytes areas c.in_ok-records.ensures ∙ tree_read areas _ made ∙ ap (λ xs. Ok xs) own;
      laws = tree_laws _ (subst (λ xs. is_plan xs ≡ true) own (plan_sound areas _ made records.few records.in_range));
      tree = accepted_exactly_trees bytes;
    }
