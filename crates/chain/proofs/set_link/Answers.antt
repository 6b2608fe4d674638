use Rattle.std.proofs.Common.{◌≡◌, set, sym, ◌∙◌}
use Rattle.std.proofs.lemmas.List.{length-map}
use Rattle.std.proofs.lemmas.Bool.{cond-true, cond-false}
use Rattle.chain.specs.Chain.{put_table}
use Rattle.chain.proofs.Chains.{relink_set, puts_first}
use Rattle.chain.proofs.set_link.Goals as goal

pub returns-in_default : goal.returns-in_default
returns-in_default g c =
    let xs = c.args.records.now in
    let f = c.in_default.ensures in
    let table : xs ≡ put_table g.R.Linked.relinked xs c.args.next c.args.i = sym (cond-false _ _ _ f) in
    record {
      answer = sym f;
      table = table;
      links = rw length-map (sym f);
      chain = puts_first g.R.Linked.link g.R.Linked.relinked g.met.R.Linked.laws.relinked_link xs xs c.args.next c.args.i table;
    }

pub returns : goal.returns
returns g c =
    let xs = c.args.records.now in
    let ys = set xs c.in-Some.k c.set_next.new.self in
    let f = c.in-Some.ensures in
    let table : ys ≡ put_table g.R.Linked.relinked xs c.args.next c.args.i =
    relink_set g.R.Linked.relinked xs _ _ _ _ _ f.1 f.2 c.set_next.ensures ∙ sym (cond-true _ _ _ f.0)
    in
    record {
      answer = sym f.0;
      table = table;
      links = rw length-map (sym f.0);
      chain = puts_first g.R.Linked.link g.R.Linked.relinked g.met.R.Linked.laws.relinked_link xs ys c.args.next c.args.i table;
    }
