-- Reachable blocks lie in slots of the plan.
use Rattle.std.proofs.Common.{◌≡◌, ℕ, ◌≤◌, true}
use Rattle.chain.specs.Chain.{numbered}
use Rattle.state.specs.Layout.{Layout, slot_count}
use Rattle.state.specs.Memory.{Memory}
use Rattle.laws.specs.Roots.{Reach, root, step}
use Rattle.laws.specs.Inductive.{Sound}
use Rattle.laws.proofs.Plans.{numbered_first}

pub reached_slot : (plan : Layout) (s : Memory) → Sound plan s → (b : ℕ) → Reach s b → numbered (slot_count plan) b ≡ true
reached_slot plan s sound b (root r) = sound.rooted_slots b r
reached_slot plan s sound b (step {p} r q) = sound.pointed_slots p b q

pub reached_first : (plan : Layout) (s : Memory) → Sound plan s → (b : ℕ) → Reach s b → 1 ≤ b
reached_first plan s sound b r = numbered_first (slot_count plan) b (reached_slot plan s sound b r)
