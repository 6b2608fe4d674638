use Rattle.std.proofs.Common.{sym, ap, ◌∙◌}
use Rattle.post.specs.Marks.{mark_in}
use Rattle.post.specs.Tables.{kept_no_mark, kept_mark, in_items, mark_read}
use Rattle.post.proofs.table.Table.has.Goals as goal

pub returns-then-is_of : goal.returns-then-is_of
returns-then-is_of c =
    let t = c.args.self.now.bytes in
    let k = c.args.mark in
    let on = ap (λ n. mark_in n k) (sym c.len.ensures) ∙ sym c.if-is_of.ensures in
    rw (c.place.ensures, mark_read t k _ on (rw c.zero_based.ensures at c.index.ensures)) (kept_mark t.items k (in_items t k on))

pub returns-else-is_of : goal.returns-else-is_of
returns-else-is_of c =
    let t = c.args.self.now.bytes in
    let k = c.args.mark in
    let off = ap (λ n. mark_in n k) (sym t.ok.0 ∙ sym c.len.ensures) ∙ sym c.if-is_of.ensures in
    c.if-is_of.false ∙ sym (kept_no_mark t.items k off)
