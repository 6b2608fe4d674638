use Rattle.chain.proofs.Chains.{visits_chain}
use Rattle.chain.proofs.visited.Goals as goal

pub returns-clause-chain : goal.returns-clause-chain
returns-clause-chain g c = visits_chain g.R.Linked.link c.args.records.now c.args.head
