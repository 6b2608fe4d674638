use Rattle.guarantees.proofs.Guaranteed.{rounds_end_soon}
use Rattle.guarantees.proofs.rounds_end_soon.Goals as goal

pub returns : goal.returns
returns c = record { figures = rounds_end_soon; promised = rounds_end_soon }
