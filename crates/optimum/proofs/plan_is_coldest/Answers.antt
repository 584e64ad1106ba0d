use Rattle.optimum.proofs.Plan.{plan_is_coldest}
use Rattle.optimum.proofs.plan_is_coldest.Goals as goal

pub returns : goal.returns
returns c = plan_is_coldest
