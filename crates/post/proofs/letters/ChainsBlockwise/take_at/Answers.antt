use Rattle.std.proofs.Common.{◌≤◌, length, get_or, ap, ◌∙◌, ◌-◌, arith}
use Rattle.post.specs.Letters.{posted}
use Rattle.post.specs.Mail.{read}
use Rattle.post.specs.Tables.{block_read}
use Rattle.post.specs.Posted.{first_numbered, TakenFirst, none_stays, taken_tidy, take_none, take_posted, take_waits}
use Rattle.post.proofs.Loops.{quiet_one, one_self}
use Rattle.post.proofs.letters.ChainsBlockwise.take_at.Goals as goal
use Rattle.post.proofs.letters.ChainsBlockwise.take_at.Goals.{After-take_first}

-- what became of the head
taken : (c : After-take_first) → TakenFirst c.args.self.now.heads.items c.args.self.now.letters.items c.args.block c.take_first.new.head c.take_first.result
taken c =
    let at = block_read c.args.self.now.heads c.args.block _ c.requires.0 c.requires.1 (rw c.zero_based.ensures at c.index_mut.ensures.value) in
    let t = rw (c.deref.ensures.value, at) at c.take_first.ensures in
    (t.answer, t.begins, t.chain)

pub invariant_of-self-clause-tidy : goal.invariant_of-self-clause-tidy
invariant_of-self-clause-tidy c =
    let chains = c.args.self.now in
    rw c.zero_based.ensures
    (taken_tidy chains.heads.items chains.letters.items c.args.block c.take_first.new.head c.take_first.result chains.tidy c.requires.0 (omega arith) (taken (goal.at.invariant_of-self-clause-tidy c).After-take_first))

pub returns-in_err-i-clause-taken : goal.returns-in_err-i-clause-taken
returns-in_err-i-clause-taken c =
    let chains = c.args.self.now in
    let heads = chains.heads.items in
    let letters = chains.letters.items in
    let h = c.take_first.new.head in
    let t = rw c.in_err-i.was at (taken (goal.at.returns-in_err-i-clause-taken c).After-take_first) in
    rw (c.from_residual.ensures, c.zero_based.ensures)
    (quiet_one c.args.block _ (take_none heads letters c.args.block h chains.tidy c.requires.0 (omega arith) t.2), ap (λ hs. posted hs letters) (none_stays heads letters c.args.block h t))

pub returns-clause-taken : goal.returns-clause-taken
returns-clause-taken c =
    let chains = c.args.self.now in
    let heads = chains.heads.items in
    let letters = chains.letters.items in
    let b = c.args.block in
    let i = c.in_ok-i.i in
    let h = c.take_first.new.head in
    let k = c.mark_of.result in
    let high : b ≤ length heads = omega arith in
    let t = rw c.in_ok-i.was at (taken (goal.at.returns-clause-taken c).After-take_first) in
    let r = read letters i c.index.result.now (first_numbered (length letters) (get_or heads (b - 1) 0) i t.0) (rw c.zero_based-2.ensures at c.index.ensures) in
    let is = c.mark_of.ensures in
    let eb = ap (λ y. y.block) is in
    let em = ap (λ y. y.entry) is ∙ r.1 in
    let el = ap (λ y. y.level) is ∙ r.2 in
    rw c.zero_based.ensures (
      rw eb (one_self b),
      take_waits heads letters b i h chains.tidy c.requires.0 high t.2 k eb em el,
      take_posted heads letters b i h chains.tidy c.requires.0 high t.2 k eb em el,
    )
