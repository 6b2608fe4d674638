use Rattle.guarantees.proofs.Guaranteed.{no_taken_mark_is_dropped}
use Rattle.guarantees.proofs.no_taken_mark_is_dropped.Goals as goal

pub returns : goal.returns
returns c = no_taken_mark_is_dropped
