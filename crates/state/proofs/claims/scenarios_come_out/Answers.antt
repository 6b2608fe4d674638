use Rattle.state.proofs.Scenarios.{scenarios_come_out, further_scenarios_come_out}
use Rattle.state.proofs.claims.scenarios_come_out.Goals as goal

pub returns : goal.returns
returns c = record { worked = scenarios_come_out; further = further_scenarios_come_out }
