use Rattle.guarantees.proofs.Guaranteed.{same_calls_same_end}
use Rattle.guarantees.proofs.same_calls_same_end.Goals as goal

pub returns : goal.returns
returns c = same_calls_same_end
