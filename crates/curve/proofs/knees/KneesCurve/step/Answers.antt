use Rattle.std.proofs.Common.{rules}
use Rattle.std.proofs.lemmas.Int.{ints, to_z-of_z}
use Rattle.curve.specs.KneeSteps.{knees_step}
use Rattle.curve.proofs.knees.KneesCurve.step.Goals as goal

pub returns : goal.returns
unfolding knees_step
returns c = search (rules, ints, to_z-of_z, c.step_at.ensures)
