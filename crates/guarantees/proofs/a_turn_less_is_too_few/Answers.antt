use Rattle.guarantees.proofs.Counterexamples.{a_turn_less_is_too_few}
use Rattle.guarantees.proofs.a_turn_less_is_too_few.Goals as goal

pub returns : goal.returns
returns c = a_turn_less_is_too_few
