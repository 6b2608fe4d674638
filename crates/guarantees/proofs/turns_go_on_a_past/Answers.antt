use Rattle.guarantees.proofs.Guaranteed.{turns_go_on_a_past}
use Rattle.guarantees.proofs.turns_go_on_a_past.Goals as goal

pub returns : goal.returns
returns c = turns_go_on_a_past
