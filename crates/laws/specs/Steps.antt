-- What the invariant gives for one call.
use Rattle.std.specs.Prelude.{ℕ}
use Rattle.state.specs.Layout.{Layout}
use Rattle.state.specs.Memory.{World}
use Rattle.state.specs.Calls.{Call, answered}
use Rattle.state.specs.Pasts.{Reach, Recovers}
use Rattle.laws.specs.Invariant.{Invariant}

-- Where the invariant holds, no call recovers a block that is reachable when the call comes.
abbrev pub ReachableBlocksStand : Type 0
ReachableBlocksStand =
    (plan : Layout) (size : ℕ) (w : World) → Invariant plan w →
    (c : Call) (b : ℕ) → Reach w.memory b → Recovers w.memory (answered plan size c w).world.memory b → ⊥
