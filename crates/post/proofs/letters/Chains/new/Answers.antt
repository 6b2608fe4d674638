use Rattle.std.proofs.Common.{sym, subst}
use Rattle.post.specs.Letters.{NoLetters}
use Rattle.post.specs.Posted.{no_letters}
use Rattle.post.proofs.letters.Chains.new.Goals as goal
use Rattle.post.proofs.letters.Chains.new.Goals.{In_ok-heads}

none_wait : (c : In_ok-heads) → NoLetters c.in_ok-heads.heads.items
none_wait c = subst NoLetters (sym (c.in_ok-heads.ensures.items_if_clones_equal (λ y e. e))) (no_letters c.min-size.result)

pub invariant_of-result-clause-tidy : goal.invariant_of-result-clause-tidy
invariant_of-result-clause-tidy c = (none_wait (goal.at.invariant_of-result-clause-tidy c).In_ok-heads).0 c.args.letters.items

pub returns-clause-none : goal.returns-clause-none
returns-clause-none c = (none_wait (goal.at.returns-clause-none c).In_ok-heads).1 c.args.letters.items
