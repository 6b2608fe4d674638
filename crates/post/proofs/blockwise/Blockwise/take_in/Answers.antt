use Rattle.std.proofs.Common.{ap, ◌∙◌, sym, refl, arith}
use Rattle.post.specs.Marks.{holds, without, Quiet}
use Rattle.post.proofs.Loops.{within_one, quiet_before, quiet_more, quiet_all}
use Rattle.post.proofs.blockwise.Blockwise.take_in.Goals as goal

pub loop-block-init : goal.loop-block-init
loop-block-init g c =
    let old = c.args.self.now in
    let made = c.into_iter-block-iterator.ensures.into_iter_gives in
    let start = ap (λ r. r.start) made ∙ c.among-block-items.ensures.start in
    let end = ap (λ r. r.end) made ∙ c.among-block-items.ensures.end in record {
      can_next = tt;
      is_finite = tt;
      size = refl;
      kept = refl;
      start = omega arith;
      end = omega arith;
      none = quiet_before _ _ (g.met.Self.Blockwise.bounded old) _ _ _ (omega arith);
    }

pub returns-in-Some-take_at-clause-taken : goal.returns-in-Some-take_at-clause-taken
returns-in-Some-take_at-clause-taken g c =
    let k = c.in-Some-take_at.mark in
    let t = c.in-Some-take_at.ensures.taken in
    let kept = c.loop-block.invariant.kept in
    let next = c.in-Some.ensures.steps in
    (within_one _ _ c.in-Some.block k.block (omega arith) (omega arith) t.0, ap (λ w. holds w k) (sym kept) ∙ t.1, t.2 ∙ ap (without k) kept)

pub loop-block-preserved : goal.loop-block-preserved
loop-block-preserved g c =
    let inv = c.loop-block.invariant in
    let t = c.in_default.ensures in
    let next = c.in-Some.ensures.steps in
    let here : Quiet c.in-Some.block c.in-Some.block (g.Self.Blockwise.kept c.args.self.now) = rw inv.kept at t.taken.0 in record {
      can_next = tt;
      is_finite = tt;
      size = t.size ∙ inv.size;
      kept = t.taken.1 ∙ inv.kept;
      start = omega arith;
      end = omega arith;
      none = rw next.1.2 (quiet_more _ _ _ _ inv.none (rw next.1.1 at here));
    }

pub returns-clause-taken : goal.returns-clause-taken
returns-clause-taken g c =
    let inv = c.loop-block.invariant in
    let ended = c.in-None.ensures.steps in
    (quiet_all _ _ (g.met.Self.Blockwise.bounded c.args.self.now) _ _ _ (omega arith) inv.none, inv.kept)
