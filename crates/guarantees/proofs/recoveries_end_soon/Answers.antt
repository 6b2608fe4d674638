use Rattle.guarantees.proofs.Guaranteed.{recoveries_end_soon}
use Rattle.guarantees.proofs.recoveries_end_soon.Goals as goal

pub returns : goal.returns
returns c = record { figures = recoveries_end_soon; promised = recoveries_end_soon }
