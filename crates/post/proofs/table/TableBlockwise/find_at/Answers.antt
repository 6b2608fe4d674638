use Rattle.std.proofs.Common.{rules, ◌≡◌, ◌∙◌, sym, ap, true, false}
use Rattle.std.specs.Slice.Iter.{iter_rest}
use Rattle.std.proofs.lemmas.Bool.{both_ways}
use Rattle.std.proofs.lemmas.Iterator.{first_from_find, YieldsList-from_map, YieldsList-from_slice}
use Rattle.post.specs.Marks.{holds}
use Rattle.post.specs.Table.{kept}
use Rattle.post.specs.Tables.{kept_marks, kept_zero, block_read}
use Rattle.post.proofs.Finds.{mark_of, pairs_found}
use Rattle.post.proofs.table.TableBlockwise.find_at.Goals as goal

pub returns-then-index-eq0 : goal.returns-then-index-eq0
returns-then-index-eq0 g c =
    let t = c.args.self.now.bytes in
    let none = sym (block_read t c.args.block _ c.requires.block.0 c.requires.block.1 (rw c.zero_based.ensures at c.index.ensures)) ∙ c.if-index-eq0.true in
    record { answer = λ k e on. absurd (both_ways _ (kept_zero t.items k.block k.entry k.level (rw e none)) on) }

pub returns : goal.returns
returns g c =
    let t = c.args.self.now.bytes.items in
    let b = c.args.block in
    let passes = goal.F-post g c.args.test in
    pairs_found _ b (kept t) (kept_marks t) passes c.find.result
    (first_from_find _ _ c.find.result (λ k. (holds (kept t) k ≡ true) × passes k true) (λ k. holds (kept t) k ≡ true → passes k false) c.find.ensures.ran
    (YieldsList-from_map _ (mark_of b) (YieldsList-from_slice _ (ap iter_rest c.map.ensures.source ∙ c.iter.ensures.rest)) c.map.ensures.closure (λ x r q h. search rules))
    (λ k q h. search rules) (λ k q h. search rules))
