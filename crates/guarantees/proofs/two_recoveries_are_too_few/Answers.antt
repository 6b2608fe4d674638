use Rattle.guarantees.proofs.Counterexamples.{two_recoveries_are_too_few}
use Rattle.guarantees.proofs.two_recoveries_are_too_few.Goals as goal

pub returns : goal.returns
returns c = two_recoveries_are_too_few
