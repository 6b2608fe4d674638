use Rattle.std.proofs.Common.{◌≡◌, ℕ, suc, zero, ◌+◌, ◌≤◌, true, List, ◌∷◌, length, map, Some, None, Option, if◌then◌else◌, rules, tests, arith, ap, refl}
use Rattle.std.specs.List.{filter_map, range_with_len}
use Rattle.std.proofs.lemmas.Bool.{cond-true}
use Rattle.std.proofs.lemmas.Iterator.{items_from_collect}
use Rattle.std.proofs.lemmas.Iterator.Consumers.{YieldsList-from_filter_map}
use Rattle.chain.specs.Chain.{numbered}
use Rattle.listing.specs.declared.Row.{Row}
use Rattle.plan.specs.declared.area.Area.{Area}
use Rattle.tripmem.proofs.Numbers.{YieldsList-from_range_inclusive}
use Rattle.tripmem.specs.Fresh.{fresh_row}
use Rattle.tripmem.proofs.fresh.fresh_rows.Goals as goal

-- an area's row, if it has that number
abbrev row_of : List Area → ℕ → Option Row
row_of areas i = if numbered (length areas) i then Some (fresh_row areas i) else None

-- each number up to how many there are has a row
all_found : (areas : List Area) (a k : ℕ) → 1 ≤ a → a + k ≤ length areas + 1 → filter_map (row_of areas) (range_with_len a k) ≡ map (fresh_row areas) (range_with_len a k)
all_found areas a zero low high = refl
all_found areas a (suc k) low high =
    let named : numbered (length areas) a ≡ true = search (rules, tests) in
    rw (cond-true (numbered (length areas) a) (Some (fresh_row areas a)) None named) (ap (λ rows. fresh_row areas a ∷ rows) (all_found areas (a + 1) k (omega arith) (omega arith)))

pub returns : goal.returns
returns c =
    let areas = c.args.plan.now in
    rw (← all_found areas 1 (length areas) (omega arith) (omega arith))
    (items_from_collect _ c.collect.ensures.ran (YieldsList-from_filter_map _ (row_of areas) (YieldsList-from_range_inclusive 1 (length areas) (length areas) (cc) (cc) (cc) (omega arith)) c.filter_map.ensures.closure (λ x r q k. search rules)))
