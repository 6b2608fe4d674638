-- Where the invariant that every call keeps holds, no call recovers a reachable block; reachable as Roots says it.
use Rattle.std.proofs.Common.{ℕ}
use Rattle.state.specs.Layout.{Layout}
use Rattle.state.specs.Memory.{World}
use Rattle.state.specs.Calls.{Call, answered}
use Rattle.state.specs.Pasts.{Recovers}
use Rattle.laws.specs.Roots.{Reach}
use Rattle.laws.specs.Inductive.{Inductive}
use Rattle.laws.proofs.Freed.{grey_stands}
use Rattle.laws.proofs.Reached.{reached_first}

pub kept_blocks_stand : (plan : Layout) (size : ℕ) (w : World) → Inductive plan w →
    (c : Call) (b : ℕ) → Reach w.memory b → Recovers w.memory (answered plan size c w).world.memory b → ⊥
kept_blocks_stand plan size w inv c b r =
    grey_stands plan size w b (reached_first plan w.memory inv.sound b r) inv.sound.sweeps_inside
    (λ a k low sweeps inside from. inv.safe.swept_reached a b k low sweeps inside from r) c
