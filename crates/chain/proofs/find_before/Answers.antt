use Rattle.std.proofs.Common.{rules, ◌==◌, length}
use borrow.Author.Tests.{tests}
use Rattle.std.proofs.lemmas.Iterator.Consumers.{YieldsList-from_first}
use Rattle.std.proofs.lemmas.Iterator.Search.{find_from_yields_List}
use Rattle.chain.specs.Chain.{visits}
use Rattle.chain.proofs.Chains.{before_found}
use Rattle.chain.proofs.find_before.Goals as goal

pub returns : goal.returns
returns g c =
    let link = g.R.Linked.link in
    let xs = c.args.records.now in
    before_found (λ x. x.now) link xs c.args.head c.args.i c.find.result c.map.result (search rules)
    (find_from_yields_List (λ v. link v.1 == c.args.i) c.find.new.self _ c.find.result c.find.ensures.ran
    (YieldsList-from_first (λ v. (v.0, v.1.now)) (λ s. s) (visits link xs (length xs) c.args.head) c.visited.ensures.all)
    (λ x b q k. search (rules, tests)))
