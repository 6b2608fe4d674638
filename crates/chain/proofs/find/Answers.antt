use Rattle.std.proofs.Common.{map, length, None, Some, sym, ◌∙◌}
use Rattle.std.proofs.lemmas.List.{length-map}
use Rattle.chain.proofs.Chains.{before_within, spot_nowhere, spot_behind_lem, takes_out}
use Rattle.chain.proofs.find.Goals as goal

pub returns-in_err-next-clause-chain : goal.returns-in_err-next-clause-chain
returns-in_err-next-clause-chain g c =
    let l = g.R.Linked in
    takes_out l.link l.relinked g.met.R.Linked.laws.relinked_link c.args.records.now c.args.head c.args.i c.from_residual.result
    (c.from_residual.ensures ∙ spot_nowhere (map l.link c.args.records.now) c.args.head c.args.i c.in_err-next.ensures.answer)

pub returns-in_err-at-clause-chain : goal.returns-in_err-at-clause-chain
returns-in_err-at-clause-chain g c =
    let l = g.R.Linked in
    let f = c.in_ok-next.ensures.answer in
    takes_out l.link l.relinked g.met.R.Linked.laws.relinked_link c.args.records.now c.args.head c.args.i c.from_residual-in_err-at.result
    (c.from_residual-in_err-at.ensures ∙ spot_behind_lem (map l.link c.args.records.now) c.args.head c.args.i _ _ None f.0 c.if-head-i.false f.1 (sym (length-map c.args.records.now l.link)) c.in_err-at.ensures)

pub returns : goal.returns
returns g c =
    let l = g.R.Linked in
    let f = c.in_ok-next.ensures.answer in
    let links = map l.link c.args.records.now in
    let s = spot_behind_lem links c.args.head c.args.i _ _ (Some c.in_ok-at.at) f.0 c.if-head-i.false f.1 (sym (length-map c.args.records.now l.link)) c.in_ok-at.ensures in
    record {
      answer = s;
      within = rw length-map at (before_within links (length c.args.records.now) c.args.head c.args.i c.in_ok-at.at (sym c.in_ok-at.ensures));
      chain = takes_out l.link l.relinked g.met.R.Linked.laws.relinked_link c.args.records.now c.args.head c.args.i _ s;
    }
