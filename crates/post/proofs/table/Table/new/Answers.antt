use Rattle.std.proofs.Common.{vec_len, ap, ◌∙◌}
use Rattle.post.specs.Table.{kept}
use Rattle.post.specs.Tables.{kept_none}
use Rattle.post.proofs.table.Table.new.Goals as goal

pub returns-clause-none : goal.returns-clause-none
returns-clause-none c = ap kept (c.fill.ensures.items (λ y e. e)) ∙ kept_none (vec_len c.args.bytes)
