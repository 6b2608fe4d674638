use Rattle.std.proofs.Common.{rules}
use Rattle.post.proofs.Finds.{level_found}
use Rattle.post.proofs.blockwise.Blockwise.any_at.Goals as goal

pub returns : goal.returns
returns g c = rw c.is_some.ensures (level_found c.args.level c.args.block _ _ _ c.find_at.ensures (λ k r h. search rules))
