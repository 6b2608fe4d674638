use Rattle.std.proofs.Common.{arith}
use Rattle.plan.proofs.Held.{total_told}
use Rattle.plan.proofs.accepted.Plan.slot_count.Goals as goal

pub overflow_cast-result : goal.overflow_cast-result
overflow_cast-result c = omega (arith, c.len.ensures, c.self.inside.homes.ok.0, total_told _ _ _ c.self.invariant c.self.view_is)
