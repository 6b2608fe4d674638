use Rattle.state.proofs.Lawful.{layouts_are_lawful}
use Rattle.state.proofs.claims.layouts_are_lawful.Goals as goal

pub returns : goal.returns
returns c = layouts_are_lawful
