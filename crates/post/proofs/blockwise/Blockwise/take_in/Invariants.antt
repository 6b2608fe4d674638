use Rattle.std.proofs.Common.{◌≡◌, ◌≤◌, ◌+◌, min, max}
use Rattle.post.proofs.Loops.{QuietBelow}
use Rattle.post.proofs.blockwise.Blockwise.take_in.Given as goal

abbrev pub invariant-loop-block : goal.invariant-loop-block
invariant-loop-block g l =
    let s = g.Self.Blockwise in
    let range = l.fn.range in
    let old = l.initial.self in
    let blocks = l.block-iterator in record {
      can_next : (goal.iterator-loop-block g).can_next blocks;
      is_finite : (goal.iterator-loop-block g).is_finite blocks;
      size : s.size l.self ≡ s.size old;
      kept : s.kept l.self ≡ s.kept old;
      start : max range.first 1 ≤ blocks.start;
      end : blocks.end ≡ min range.last (s.size old) + 1;
      none : QuietBelow range.first range.last (s.kept old) blocks.start;
    }
