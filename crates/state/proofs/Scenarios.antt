-- The scenarios, by computing.
use Rattle.std.proofs.Common.{refl}
use Rattle.std.specs.Fmt.{digits}
use Rattle.listing.specs.Listing.{line}
use Rattle.plan.specs.Plans.{climb, meet_from}
use Rattle.plan.specs.Reading.{read_plan}
use Rattle.plan.specs.Tree.{is_tree}
use Rattle.plan.specs.Walk.{along, walk_from}
use Rattle.state.specs.Scenarios.{ScenariosComeOut, FurtherScenariosComeOut}

pub scenarios_come_out : ScenariosComeOut
unfolding climb meet_from read_plan is_tree along walk_from line digits
scenarios_come_out = (refl, (refl, (refl, (refl, (refl, (refl, (refl, (refl, (refl, (refl, (refl, tt)))))))))))

pub further_scenarios_come_out : FurtherScenariosComeOut
unfolding climb meet_from read_plan is_tree along walk_from line digits
further_scenarios_come_out = (refl, (refl, (refl, (refl, tt))))
