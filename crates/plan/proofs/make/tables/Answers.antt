use Rattle.std.proofs.Common.{◌≡◌, Ok, sym, ap, ◌∙◌}
use Rattle.std.proofs.lemmas.Result.{err_from_is_err_and, IfOk-from_err}
use Rattle.plan.specs.Nodes.{places_in, nodes_met}
use Rattle.plan.specs.Plans.{tables_if, homes_of}
use Rattle.plan.specs.Tree.{order_of, homes_in}
use Rattle.plan.proofs.Parts.{handed_on, order_refused, order_told, nodes_refused, places_told, areas_told, slots_refused, total_refused, plan_read, tables_refused}
use Rattle.plan.proofs.make.tables.Goals as goal
use Rattle.plan.proofs.make.tables.Goals.{In_ok-nodes}

pub returns-in_err-walk : goal.returns-in_err-walk
returns-in_err-walk c =
    let areas = c.args.records.now.areas.items in
    let p = err_from_is_err_and c.from_residual.result c.from_residual.ensures.1 in
    record {
      answer =
          handed_on _ (order_of areas) _ _ p.0 c.in_err-walk.field-0.0 p.1 p.2
          (λ e. tables_refused areas _ (order_refused areas _ e)) c.in_err-walk.ensures.answer;
      own = IfOk-from_err _ _ c.from_residual.ensures.0;
    }

pub returns-in_err-nodes : goal.returns-in_err-nodes
returns-in_err-nodes c =
    let areas = c.args.records.now.areas.items in
    let order = places_in c.in_ok-walk.walk.met.items in
    let p = err_from_is_err_and c.from_residual-in_err-nodes.result c.from_residual-in_err-nodes.ensures.1 in
    let due = ap (λ xs. nodes_met xs order) c.in_ok-walk.ensures.same in
    record {
      answer =
          handed_on _ (nodes_met c.in_ok-walk.walk.areas.now order) _ _ p.0 c.in_err-nodes.field-0.0 p.1 p.2
          (λ e. tables_refused areas _ (nodes_refused areas order _ c.in_ok-walk.ensures.answer _ (sym due ∙ e))) c.in_err-nodes.ensures;
      own = IfOk-from_err _ _ c.from_residual-in_err-nodes.ensures.0;
    }

-- the nodes by number are those of the areas that were given
met : (c : In_ok-nodes) → nodes_met c.args.records.now.areas.items (places_in c.in_ok-walk.walk.met.items) ≡ Ok c.in_ok-nodes.nodes.items
met c = sym (ap (λ xs. nodes_met xs (places_in c.in_ok-walk.walk.met.items)) c.in_ok-walk.ensures.same) ∙ c.in_ok-nodes.ensures

pub returns-in-Some : goal.returns-in-Some
returns-in-Some c =
    let areas = c.args.records.now.areas.items in
    let order = places_in c.in_ok-walk.walk.met.items in
    record { answer = tables_refused areas _ (slots_refused areas order _ c.in_ok-walk.ensures.answer _ (met (goal.at.returns-in-Some c).In_ok-nodes) _ c.in-Some.ensures); own = tt }

pub returns-then-walk-gt1024 : goal.returns-then-walk-gt1024
returns-then-walk-gt1024 c =
    let areas = c.args.records.now.areas.items in
    let order = places_in c.in_ok-walk.walk.met.items in
    record { answer = tables_refused areas _ (total_refused areas order _ c.in_ok-walk.ensures.answer _ (met (goal.at.returns-then-walk-gt1024 c).In_ok-nodes) c.in_default.ensures c.if-walk-gt1024.true); own = tt }

pub returns : goal.returns
returns c =
    let areas = c.args.records.now.areas.items in
    let walk = c.in_ok-walk.walk in
    let order = places_in walk.met.items in
    let ordered = c.in_ok-walk.ensures.answer in
    let all = met (goal.at.returns c).In_ok-nodes in
    let read = plan_read areas order _ ordered _ all c.in_default.ensures c.if-walk-gt1024.false in
    let p = places_told areas order _ ordered _ all in
    let h : c.in_ok-homes.homes.items ≡ homes_of areas = c.in_ok-homes.ensures ∙ ap (λ xs. homes_in xs order) c.in_ok-walk.ensures.same ∙ ap (homes_in areas) (order_told areas _ _ ordered) in
    record { answer = ap (tables_if areas) read ∙ ap (λ x. Ok x) (λ i. (sym p i, sym h i)); own = areas_told areas order _ ordered _ all }
