use Rattle.std.proofs.Common.{rules, ◌≡◌, ℕ, ◌≤◌, cond, leb, List, ◌++◌, length, take, drop, Ok, Err, sym, ap, ◌∙◌, arith}
use Rattle.std.proofs.lemmas.List.{append_assoc, take_at, take-take}
use Rattle.std.proofs.lemmas.Bool.{cond-true, leb-true}
use Rattle.listing.specs.declared.Refusal.TheVariants.{Short}
use Rattle.listing.specs.Listing.{listing}
use Rattle.plan.proofs.Conds.{ok_from}
use Rattle.tripmem.proofs.fresh.fresh_listing.Goals as goal

-- the front of what was written is the text
front : (text out out' tail : List ℕ) (n m : ℕ) → Ok n ≡ cond (leb (length text) (length out)) (Ok (length text)) (Err Short) → out' ≡ cond (leb (length text) (length out)) (text ++ drop (length text) out) out → length out ≡ m → take n (take m (out' ++ tail)) ≡ text
front text out out' tail n m answer after long =
    let told = ok_from (leb (length text) (length out)) (length text) n Short (sym answer) in
    let l : length text ≤ length out = leb-true _ _ told.0 in
    let fits : n ≤ m = omega (arith, told.1, long) in
    take-take n m (out' ++ tail) fits
    ∙ ap (λ xs. take n (xs ++ tail)) (after ∙ cond-true _ _ _ told.0)
    ∙ ap (take n) (append_assoc text (drop (length text) out) tail)
    ∙ take_at text _ n (sym told.1)

pub returns : goal.returns
returns c =
    let fits : c.write_listing.result ≡ Ok c.in_ok-length.length = search rules in
    c.truncate.ensures.items
    ∙ front (listing c.deref.result.now) c.deref_mut.result.now c.write_listing.new.out _ c.in_ok-length.length _ (sym fits ∙ c.write_listing.ensures.answer) c.write_listing.ensures.after c.deref_mut.ensures.len
    ∙ ap listing (c.deref.ensures.value ∙ c.in_ok-rows.ensures)
