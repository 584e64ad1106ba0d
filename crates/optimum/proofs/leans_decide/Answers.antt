use Rattle.optimum.proofs.Certificate.{leans_decide}
use Rattle.optimum.proofs.leans_decide.Goals as goal

pub returns : goal.returns
returns c = leans_decide
