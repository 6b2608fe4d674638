use Rattle.std.proofs.Common.{◌≡◌, suc}
use Rattle.post.specs.Marks.{outside}
use Rattle.post.proofs.Counts.{count}
use Rattle.post.specs.Sets.{Handing}
use Rattle.post.proofs.drain.Given as goal

abbrev pub invariant-loop-mark : goal.invariant-loop-mark
invariant-loop-mark g l =
    let p = g.P.Post in
    let t = g.R.Receiver in
    (p.size l.post ≡ p.size l.initial.post)
    × (outside l.range.first l.range.last (p.waits l.post) ≡ outside l.range.first l.range.last (p.waits l.initial.post))
    × (t.room l.to ≡ t.room l.initial.to)
    × (Handing l.range.first l.range.last (t.room l.to) (t.got l.to) (p.waits l.post)
    ≡ Handing l.range.first l.range.last (t.room l.initial.to) (t.got l.initial.to) (p.waits l.initial.post))

abbrev pub decreases-loop-mark : goal.decreases-loop-mark
decreases-loop-mark g l = let p = g.P.Post in count (suc (p.size l.post)) (p.waits l.post)
