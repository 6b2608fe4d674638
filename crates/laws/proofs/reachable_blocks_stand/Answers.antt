use Rattle.laws.proofs.Stand.{reachable_blocks_stand}
use Rattle.laws.proofs.reachable_blocks_stand.Goals as goal

pub returns : goal.returns
returns c = reachable_blocks_stand
