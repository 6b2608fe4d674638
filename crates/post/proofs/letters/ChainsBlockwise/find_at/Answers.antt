use Rattle.std.proofs.Common.{rules, true, false, length, ◌∙◌, ◌-◌, get_or, arith}
use Rattle.std.proofs.lemmas.Iterator.{first_from_find, YieldsList-from_map}
use Rattle.std.proofs.lemmas.Iterator.Consumers.{YieldsList-from_first}
use Rattle.chain.specs.Chain.{visits}
use Rattle.post.specs.Letters.{waiting}
use Rattle.post.specs.Tables.{block_read}
use Rattle.post.specs.Posted.{row_chain}
use Rattle.post.specs.declared.letters.Letter.{Letter}
use Rattle.post.proofs.Finds.{mark_in_letter, letters_found}
use Rattle.post.proofs.letters.ChainsBlockwise.find_at.Goals as goal

pub returns : goal.returns
returns g c =
    let chains = c.args.self.now in
    let heads = chains.heads in
    let letters = chains.letters.items in
    let b = c.args.block in
    let head = get_or heads.items (b - 1) 0 in
    let low = c.requires.block.0 in
    let at = block_read heads b _ low c.requires.block.1 (rw c.zero_based.ensures at c.index.ensures) in
    let same = c.deref.ensures.value in
    let next = λ (x : Letter). x.next in
    let passes = goal.F-post g c.args.test in
    let all = rw (same, at) at c.visited.ensures.all in
    let numbers = (rw (same, at) at c.visited.ensures.chain) (waiting heads.items letters b) (row_chain heads.items letters b (chains.tidy b low (omega arith))) in
    let row = rw all at numbers in
    letters_found heads.items letters b head chains.tidy low (omega arith) row passes c.find.result
    (first_from_find c.find.new.self _ c.find.result (λ k. passes k true) (λ k. passes k false) c.find.ensures.ran
    (YieldsList-from_map _ (mark_in_letter b)
    (YieldsList-from_first (λ v. (v.0, v.1.now)) (λ s. s) (visits next letters (length letters) head) (c.map.ensures.source ∙ all))
    c.map.ensures.closure (λ x r q h. search rules))
    (λ k q h. search rules) (λ k q h. search rules))
