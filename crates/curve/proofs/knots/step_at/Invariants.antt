use Rattle.std.proofs.Common.{◌≡◌}
use Rattle.std.specs.Slice.Iter.{iter_rest}
use Rattle.std.specs.Iterator.Adapters.{zip_first, zip_second}
use Rattle.curve.specs.KneeSteps.{step_at}
use Rattle.curve.proofs.knots.step_at.Given as goal

abbrev pub invariant-loop-knee : goal.invariant-loop-knee
invariant-loop-knee l =
    step_at l.level l.first l.levels l.steps
    ≡ step_at l.level l.holds (iter_rest (zip_first l.knee-iterator)) (iter_rest (zip_second l.knee-iterator))
