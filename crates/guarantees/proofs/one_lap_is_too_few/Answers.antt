use Rattle.guarantees.proofs.Counterexamples.{one_lap_is_too_few}
use Rattle.guarantees.proofs.one_lap_is_too_few.Goals as goal

pub returns : goal.returns
returns c = one_lap_is_too_few
