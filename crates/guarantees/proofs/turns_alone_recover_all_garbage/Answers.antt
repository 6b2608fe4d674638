use Rattle.guarantees.proofs.Guaranteed.{turns_alone_recover_all_garbage, turns_alone_as_promised}
use Rattle.guarantees.proofs.turns_alone_recover_all_garbage.Goals as goal

pub returns : goal.returns
returns c = record { figures = turns_alone_recover_all_garbage; promised = turns_alone_as_promised }
