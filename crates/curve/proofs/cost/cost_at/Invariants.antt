use Rattle.std.proofs.Common.{◌≡◌}
use Rattle.curve.specs.Meaning.{cost}
use Rattle.curve.proofs.cost.cost_at.Given as goal

abbrev pub invariant-loop-below : goal.invariant-loop-below
invariant-loop-below g l = l.cost ≡ cost (g.C.Curve.ground l.curve) (g.C.Curve.steps l.curve) l.below
