use Rattle.std.proofs.Common.{rules, refl}
use Rattle.post.specs.Tables.{kept_in}
use Rattle.post.proofs.Finds.{none_found}
use Rattle.post.proofs.table.TableBlockwise.take_at.Goals as goal

pub returns-in_err-mark-clause-taken : goal.returns-in_err-mark-clause-taken
returns-in_err-mark-clause-taken c =
    rw c.from_residual.ensures
    (none_found c.args.block _ _ (rw c.in_err-mark.was at c.find_at.ensures) (λ k h. search rules), refl)

pub remove-requires-clause-mark : goal.remove-requires-clause-mark
remove-requires-clause-mark c =
    let k = c.in_ok-mark.mark in
    kept_in c.args.self.now.bytes k.block k.entry k.level c.in_ok-mark.ensures.answer.1
