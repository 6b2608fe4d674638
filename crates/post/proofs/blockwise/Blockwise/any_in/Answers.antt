use Rattle.std.proofs.Common.{true, false, rules, refl, arith}
use Rattle.std.proofs.lemmas.Iterator.{cases_from_any, YieldsList-from_range}
use Rattle.post.specs.Marks.{AnyAt}
use Rattle.post.proofs.Loops.{any_found}
use Rattle.post.proofs.blockwise.Blockwise.any_in.Goals as goal

pub returns : goal.returns
returns g c =
    let old = c.args.self.now in
    let w = g.Self.Blockwise.kept old in
    let level = c.args.level in
    let blocks = c.among.result in
    any_found _ w (g.met.Self.Blockwise.bounded old) _ _ level blocks.start blocks.end c.among.ensures.start (omega arith)
    c.any.result
    (cases_from_any _ _ c.any.result (λ b. AnyAt level b b w true) (λ b. AnyAt level b b w false) c.any.ensures.ran (YieldsList-from_range blocks.start blocks.end _ refl refl)
    (λ b q h. search rules) (λ b q h. search rules))
