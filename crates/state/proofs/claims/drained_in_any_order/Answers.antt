use Rattle.state.proofs.Drains.{drained_in_any_order}
use Rattle.state.proofs.claims.drained_in_any_order.Goals as goal

pub returns : goal.returns
returns c = drained_in_any_order
