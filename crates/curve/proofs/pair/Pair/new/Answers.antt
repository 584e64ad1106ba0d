use Rattle.std.proofs.Common.{sym}
use Rattle.curve.specs.PairsLemmas.{exact_steps}
use Rattle.curve.specs.Tests.{and_right}
use Rattle.curve.proofs.pair.Pair.new.Goals as goal

pub returns-clause-exact_steps : goal.returns-clause-exact_steps
returns-clause-exact_steps g c =
    exact_steps (g.A.Curve.steps c.args.first) (g.B.Curve.steps c.args.second) (and_right _ _ (sym c.if-not-sums_fit.ensures))
