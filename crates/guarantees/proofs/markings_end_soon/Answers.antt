use Rattle.guarantees.proofs.Guaranteed.{markings_end_soon}
use Rattle.guarantees.proofs.markings_end_soon.Goals as goal

pub returns : goal.returns
returns c = record { figures = markings_end_soon; promised = markings_end_soon }
