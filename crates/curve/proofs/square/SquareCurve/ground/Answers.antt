use Rattle.std.proofs.Common.{◌*◌, ℤ, pos, ◌*ℤ◌, ap, ◌∙◌, arith, w64, rules}
use Rattle.std.proofs.lemmas.Int.{ints, to_z-of_z}
use Rattle.std.proofs.lemmas.Nat.{mul-le}
use Rattle.curve.specs.Limits.{top}
use Rattle.curve.specs.Squares.{square_ground}
use Rattle.curve.proofs.square.SquareCurve.ground.Goals as goal

pub returns : goal.returns
unfolding square_ground
returns c =
    let small = mul-le _ _ top top c.args.self.now.aimed c.args.self.now.aimed in
    to_z-of_z w64 c.times.result (search rules) ∙ c.times.ensures ∙ ap (λ (z : ℤ). pos c.args.self.now.weight *ℤ z) {y = pos (c.args.self.now.target * c.args.self.now.target)} (omega (arith, ints, small))
