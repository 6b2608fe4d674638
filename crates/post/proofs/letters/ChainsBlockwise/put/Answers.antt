use Rattle.std.proofs.Common.{rules, ◌≡◌, ◌*◌, ◌≤◌, ◌-◌, List, length, set, subst, sym, ap, ◌∙◌, arith}
use Rattle.std.specs.Vec.{with_item}
use Rattle.std.proofs.lemmas.List.{with_items_is}
use Rattle.chain.specs.Chain.{among}
use Rattle.post.specs.Marks.{added}
use Rattle.post.specs.Letters.{posted, waiting, Tidy}
use Rattle.post.specs.Tables.{in_items, mark_read}
use Rattle.post.specs.Posted.{not_among, put_done}
use Rattle.post.specs.declared.letters.Letter.{Letter}
use Rattle.post.proofs.Finds.{same_found}
use Rattle.post.proofs.letters.ChainsBlockwise.put.Goals as goal
use Rattle.post.proofs.letters.ChainsBlockwise.put.Goals.{After-put_first}

-- what the letter's put leaves
done : (c : After-put_first)
    → Tidy (set c.args.self.now.heads.items (c.args.mark.block - 1) c.put_first.new.head) c.put_first.new.records
    × (posted (set c.args.self.now.heads.items (c.args.mark.block - 1) c.put_first.new.head) c.put_first.new.records ≡ added c.args.mark (posted c.args.self.now.heads.items c.args.self.now.letters.items))
done c =
    let chains = c.args.self.now in
    let heads = chains.heads in
    let letters = chains.letters in
    let k = c.args.mark in
    let e = c.letter_of-i.ensures in
    let on = in_items heads k c.requires in
    let t = rw (c.deref_mut.ensures.value, c.zero_based.ensures, mark_read heads k _ c.requires (rw c.zero_based-2.ensures at c.index_mut-2.ensures.value)) at c.put_first.ensures in
    let off = sym (same_found k (posted heads.items letters.items) _ c.find_at.result c.find_at.ensures (λ j h. search rules) (λ h. search rules)) ∙ sym c.is_some.ensures ∙ c.if-is_some.false in
    let room : 6 * length heads.items ≤ length letters.items = omega arith in
    put_done heads.items letters.items c.put_first.new.records k c.put_first.new.head c.letter_of-i.result chains.tidy room on e
    (ap (λ i. among i (waiting heads.items letters.items k.block)) e ∙ not_among heads.items letters.items k on off) t.table t.chain

pub invariant_of-self-clause-tidy : goal.invariant_of-self-clause-tidy
invariant_of-self-clause-tidy c =
    let d = done (goal.at.invariant_of-self-clause-tidy c).After-put_first in
    let heads' = set c.args.self.now.heads.items (c.args.mark.block - 1) c.put_first.new.head in
    let P : List Letter → Type 0 = λ ls. Tidy heads' ls in
    rw c.zero_based-2.ensures (subst P (sym (with_items_is (with_item c.args.self.now.letters c.zero_based.result _) c.put_first.new.records (c.put_first.auto.records ∙ c.deref_mut.ensures.len))) d.0)

pub returns-clause-after : goal.returns-clause-after
returns-clause-after c =
    let d = done (goal.at.returns-clause-after c).After-put_first in
    let heads' = set c.args.self.now.heads.items (c.args.mark.block - 1) c.put_first.new.head in
    rw c.zero_based-2.ensures (ap (posted heads') (with_items_is (with_item c.args.self.now.letters c.zero_based.result _) c.put_first.new.records (c.put_first.auto.records ∙ c.deref_mut.ensures.len)) ∙ d.1)
