use Rattle.std.proofs.Common.{◌≡◌, ℕ, ◌+◌, ◌≤◌, List, [], ◌∷◌, length, fold, cond, nat_le, arith, Bor, IfSome, IfNone, rules, ◌<◌}
use Rattle.std.proofs.lemmas.Grind.{common_steps}
use Rattle.std.proofs.lemmas.List.Concat.{length-flat_map}
use Rattle.std.proofs.lemmas.List.Sums.{sum_by_from}
use Rattle.listing.specs.Listing.{line, listing}
use Rattle.listing.specs.declared.Row.{Row}
use Rattle.listing.proofs.listing_length.Goals as goal

-- the lengths of the lines, added up
lengths_added : (rows : List Row) → length (listing rows) ≡ fold (λ n row. n + length (line row)) 0 rows
lengths_added rows = omega (arith, length-flat_map line rows, sum_by_from (λ (row : Row). length (line row)) 0 rows)

-- the sum with `step` more, where that is at most `room`
abbrev within : ℕ → ℕ → ℕ → ℕ
within room sum step = cond (nat_le (sum + step) room) (sum + step) 0

sums_within : (room : ℕ) (sum : ℕ) (rows : List (Bor Row)) → sum ≤ room → fold (λ n row. within room n (length (line row.now))) sum rows ≤ room
sums_within room sum [] low = low
sums_within room sum (row ∷ rows) low = sums_within room (within room sum (length (line row.now))) rows (grind (arith, common_steps))

pub returns : goal.returns
returns c =
    let added = lengths_added c.args.rows.now in
    let low = sums_within c.args.room 0 c.try_fold.ensures.runs.0.items (omega arith) in
    let fits : IfSome c.try_fold.result (λ size. size ≤ c.args.room) = grind (arith, common_steps, low) in
    let sum : IfSome c.try_fold.result (λ size. size ≡ length (listing c.args.rows.now)) = rw added (search rules) in
    let over : IfNone c.try_fold.result (c.args.room < length (listing c.args.rows.now)) = rw added (search rules) in
    grind (arith, common_steps, fits, sum, over)
