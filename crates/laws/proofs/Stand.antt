-- Where the clauses of Invariant hold, no call recovers a reachable block.
use Rattle.std.proofs.Common.{◌≡◌, ℕ, true}
use Rattle.chain.specs.Chain.{numbered}
use Rattle.chain.proofs.Chains.{numbered_parts}
use Rattle.state.specs.Layout.{Layout, slot_count}
use Rattle.state.specs.Memory.{World}
use Rattle.state.specs.Pasts.{Reach, root, step}
use Rattle.laws.specs.Invariant.{Invariant}
use Rattle.laws.specs.Steps.{ReachableBlocksStand}
use Rattle.laws.proofs.Freed.{grey_stands}

-- a reachable block lies in a slot of the plan
reached_slot : (plan : Layout) (w : World) → Invariant plan w → (b : ℕ) → Reach w.memory b → numbered (slot_count plan) b ≡ true
reached_slot plan w inv b (root r) = inv.rooted_slots b r
reached_slot plan w inv b (step {p} r q) = inv.pointed_slots p b q

pub reachable_blocks_stand : ReachableBlocksStand
reachable_blocks_stand plan size w inv c b r =
    grey_stands plan size w b (numbered_parts (slot_count plan) b (reached_slot plan w inv b r)).0 inv.sweeps_inside
    (λ a k low sweeps inside from. inv.swept_reached a b k low sweeps inside from r) c
