-- The smallest plan in which pointers can cross areas, and pasts on it.
use Rattle.std.proofs.Common.{◌≡◌, ℕ, zero, suc, ◌≤◌, true, List, [], ◌∷◌, length, Ok, refl, arith}
use Rattle.std.proofs.lemmas.Bool.{and_parts, false≢true}
use Rattle.chain.specs.Chain.{numbered}
use Rattle.chain.proofs.Chains.{numbered_parts}
use Rattle.plan.specs.declared.area.Area.{Area}
use Rattle.plan.specs.Plans.{is_plan, climb, meet_from}
use Rattle.plan.specs.Tree.{is_tree}
use Rattle.plan.specs.Walk.{area_at, along, walk_from}
use Rattle.post.specs.Marks.{none}
use Rattle.state.specs.Layout.{Layout, layout_of, top, lowest, slot_count}
use Rattle.state.specs.Memory.{World}
use Rattle.state.specs.Calls.{Call, answered, fresh, made}
use Rattle.state.specs.Pasts.{Past, making, then}

-- Area 1 over areas 2 and 3 with one slot each.
unfoldable pub areas : List Area
areas =
    record { level = 2; child = 2; next = 0; slots = 0 }
    ∷ record { level = 1; child = 0; next = 3; slots = 1 }
    ∷ record { level = 1; child = 0; next = 0; slots = 1 }
    ∷ []

abbrev pub small : Layout
small = layout_of areas

-- What a computation on this plan unfolds.
unfoldable pub computing : ℕ
unfolding areas climb meet_from is_plan is_tree along walk_from
computing = 0

pub small_is_plan : is_plan areas ≡ true
unfolding computing
small_is_plan = refl

pub small_top : top small ≡ 2
unfolding areas
small_top = refl

pub lowest_two : lowest small 2 ≡ true
unfolding areas
lowest_two = refl

pub lowest_three : lowest small 3 ≡ true
unfolding areas
lowest_three = refl

pub top_numbered : numbered (length areas) 1 ≡ true
unfolding areas
top_numbered = refl

pub top_high : 2 ≤ (area_at areas 1).level
unfolding areas
top_high = omega arith

pub slot_one : numbered (slot_count small) 1 ≡ true
unfolding computing
slot_one = refl

-- Pasts

abbrev pub start : World
start = record { memory = fresh small; waits = none }

-- The world after calls, with a post of two blocks.
abbrev pub called : List Call → World → World
called [] w = w
called (c ∷ cs) w = called cs (answered small 2 c w).world

called_past : (cs : List Call) (w : World) → Past small 2 w → Past small 2 (called cs w)
called_past [] w past = past
called_past (c ∷ cs) w past = called_past cs (answered small 2 c w).world (then past c)

start_made : made small 2 none ≡ Ok start
unfolding computing
start_made = refl

pub past_of : (cs : List Call) → Past small 2 (called cs start)
past_of cs = called_past cs start (making none (λ b m l h. absurd (false≢true h)) start start_made)

-- Areas 2 and 3 are the lowest, and area 1 is the only one of level 2.

pub by_lowest : (P : ℕ → Type 0) → P 2 → P 3 → (a : ℕ) → lowest small a ≡ true → P a
unfolding areas
by_lowest P two three zero low = absurd (false≢true low)
by_lowest P two three (suc zero) low = absurd (false≢true low)
by_lowest P two three (suc (suc zero)) low = two
by_lowest P two three (suc (suc (suc zero))) low = three
by_lowest P two three (suc (suc (suc (suc n)))) low = absurd (omega (arith, numbered_parts 3 (suc (suc (suc (suc n)))) (and_parts _ _ low).0))

pub by_top : (P : ℕ → Type 0) → P 1 → (x : ℕ) → numbered (length areas) x ≡ true → (area_at areas x).level ≡ 2 → P x
unfolding areas
by_top P one zero named level = absurd (false≢true named)
by_top P one (suc zero) named level = one
by_top P one (suc (suc zero)) named level = absurd (omega (arith, level))
by_top P one (suc (suc (suc zero))) named level = absurd (omega (arith, level))
by_top P one (suc (suc (suc (suc n)))) named level = absurd (omega (arith, numbered_parts 3 (suc (suc (suc (suc n)))) named))
