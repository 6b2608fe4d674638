use Rattle.guarantees.proofs.Counterexamples.{no_lap_is_too_few}
use Rattle.guarantees.proofs.no_lap_is_too_few.Goals as goal

pub returns : goal.returns
returns c = no_lap_is_too_few
