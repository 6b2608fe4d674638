use Rattle.std.proofs.Common.{◌≡◌, ◌-◌}
use Rattle.plan.specs.Plans.{meet_from, common_level, top_level, parent_of}
use Rattle.plan.proofs.accepted.Plan.common_level.Given as goal

abbrev pub invariant-loop-level : goal.invariant-loop-level
invariant-loop-level l =
    common_level l.self l.x l.y ≡
    meet_from (parent_of l.self) (top_level l.self - l.level) l.level l.over_x l.over_y
