use Rattle.std.proofs.Common.{sym, ap, ◌∙◌}
use Rattle.post.specs.Marks.{outside}
use Rattle.post.proofs.Counts.{taken_falls}
use Rattle.post.specs.Sets.{outside_more, outside_none, turn, over, all_handed}
use Rattle.post.proofs.drain.Goals as goal

pub loop-mark-smaller : goal.loop-mark-smaller
loop-mark-smaller g c =
    let p = g.P.Post in
    let t = c.in-Some.ensures in
    taken_falls (p.size c.loop-mark.post) (p.size c.take.new.self) (p.waits c.loop-mark.post) (p.waits c.take.new.self) c.in-Some.mark t.size (g.met.P.Post.bounded c.loop-mark.post _ _ _ t.taken.1) t.taken.1 t.taken.2

pub loop-mark-preserved : goal.loop-mark-preserved
loop-mark-preserved g c =
    let t = c.in-Some.ensures in
    let k = c.in-Some.mark in
    let inv = c.loop-mark.invariant in
    let first = c.args.range.first in
    let last = c.args.range.last in
    let w = g.P.Post.waits c.loop-mark.post in
    let r = g.R.Receiver in (
      t.size ∙ inv.0,
      ap (outside first last) t.taken.2 ∙ outside_more first last w k t.taken.0 ∙ inv.1,
      (assumption) ∙ inv.2,
      turn first last (r.room c.loop-mark.to) _ w (g.P.Post.waits c.take.new.self) (r.got c.loop-mark.to) _ k t.taken.0 t.taken.1 t.taken.2 (assumption) (assumption) ∙ inv.3,
    )

pub returns : goal.returns
returns g c =
    let t = c.in_default.ensures in
    let inv = c.loop-mark.invariant in
    let first = c.args.range.first in
    let last = c.args.range.last in
    let p = g.P.Post in
    let r = g.R.Receiver in
    let w = p.waits c.loop-mark.post in
    let handed = over first last (r.room c.loop-mark.to) w (r.got c.loop-mark.to) t.taken.0 ∙ inv.3 in
    record {
      size = t.size ∙ inv.0;
      after = t.taken.1 ∙ sym (outside_none first last w t.taken.0) ∙ inv.1;
      room = inv.2;
      handed = handed;
      whole = λ enough. handed ∙ all_handed first last (p.size c.args.post.now) (r.room c.args.to.now) (p.waits c.args.post.now) (r.got c.args.to.now) enough (g.met.P.Post.bounded c.args.post.now);
    }
