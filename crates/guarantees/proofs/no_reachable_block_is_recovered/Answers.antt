use Rattle.guarantees.proofs.Guaranteed.{no_reachable_block_is_recovered}
use Rattle.guarantees.proofs.no_reachable_block_is_recovered.Goals as goal

pub returns : goal.returns
returns c = record { figures = no_reachable_block_is_recovered; promised = no_reachable_block_is_recovered }
