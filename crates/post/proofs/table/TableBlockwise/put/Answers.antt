use Rattle.post.specs.Tables.{put_kept, in_items, mark_read}
use Rattle.post.proofs.table.TableBlockwise.put.Goals as goal

pub returns-clause-after : goal.returns-clause-after
returns-clause-after c =
    let t = c.args.self.now.bytes in
    let k = c.args.mark in
    rw (c.place.ensures, c.zero_based.ensures, mark_read t k _ c.requires (rw c.zero_based.ensures at c.index_mut.ensures.value)) (put_kept t.items k (in_items t k c.requires))
