use Rattle.post.specs.Tables.{clear_kept, mark_read}
use Rattle.post.proofs.table.Table.remove.Goals as goal

pub returns-clause-after : goal.returns-clause-after
returns-clause-after c =
    let t = c.args.self.now.bytes in
    let k = c.args.mark in
    rw (c.place.ensures, c.zero_based.ensures, mark_read t k _ c.requires.mark (rw c.zero_based.ensures at c.index_mut.ensures.value)) (clear_kept t.items k c.requires.kept)
