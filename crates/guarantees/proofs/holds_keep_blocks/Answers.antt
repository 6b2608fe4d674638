use Rattle.guarantees.proofs.Counterexamples.{holds_keep_blocks}
use Rattle.guarantees.proofs.holds_keep_blocks.Goals as goal

pub returns : goal.returns
returns c = holds_keep_blocks
