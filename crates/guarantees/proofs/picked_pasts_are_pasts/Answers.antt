use Rattle.guarantees.proofs.Guaranteed.{picked_pasts_are_pasts}
use Rattle.guarantees.proofs.picked_pasts_are_pasts.Goals as goal

pub returns : goal.returns
returns c = picked_pasts_are_pasts
