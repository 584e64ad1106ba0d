use Rattle.std.proofs.Common.{ℤ, pos, ◌*ℤ◌, ap, ◌∙◌, arith, w64, rules}
use Rattle.std.proofs.lemmas.Int.{ints, to_z-of_z}
use Rattle.curve.specs.Squares.{square_step}
use Rattle.curve.proofs.square.SquareCurve.step.Goals as goal

pub returns : goal.returns
unfolding square_step
returns c = to_z-of_z w64 c.times.result (search rules) ∙ c.times.ensures ∙ ap (λ (z : ℤ). pos c.args.self.now.weight *ℤ z) (omega (arith, ints))
