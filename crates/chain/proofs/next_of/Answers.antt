use Rattle.std.proofs.Common.{◌≡◌, map, ap, ◌∙◌}
use Rattle.std.proofs.lemmas.List.{length-map}
use Rattle.chain.specs.Chain.{link_of}
use Rattle.chain.proofs.Chains.{link_read, taken_none, taken_some}
use Rattle.chain.proofs.next_of.Goals as goal

pub returns-in_err-k : goal.returns-in_err-k
returns-in_err-k g c =
    let f = c.in_err-k.ensures in
    record {
      answer = rw (c.from_residual.ensures, length-map) f;
      taken = rw c.from_residual.ensures (taken_none g.R.Linked.link c.args.records.now c.args.i f);
    }

pub returns : goal.returns
returns g c =
    let link = g.R.Linked.link in
    let xs = c.args.records.now in
    let f = c.in_ok-k.ensures in
    let n : c.next.result ≡ link_of (map link xs) c.args.i =
    link_read link xs c.args.i _ _ _ f.1 f.2 (c.next.ensures ∙ ap link c.index-records-k.is)
    in
    record { answer = (rw length-map f.0, n); taken = taken_some link xs c.args.i c.next.result f.0 n }
