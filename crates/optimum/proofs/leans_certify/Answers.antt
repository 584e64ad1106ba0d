use Rattle.optimum.proofs.Certificate.{leans_certify}
use Rattle.optimum.proofs.leans_certify.Goals as goal

pub returns : goal.returns
returns c = leans_certify
