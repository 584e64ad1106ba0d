use Rattle.std.proofs.Common.{◌^◌, ◌<◌, ◌*ℤ◌, ◌∙◌, ap₂, arith, w64}
use Rattle.std.proofs.lemmas.Int.{ints, to_z_pos, to_z-of_z}
use Rattle.curve.specs.Products.{times_within}
use Rattle.curve.proofs.scaling.times.Goals as goal

pub overflow_mul-result : goal.overflow_mul-result
overflow_mul-result c =
    let fits : c.args.weight < 2 ^ 63 = omega arith in
    let size = times_within c.args.weight c.args.factor (2 ^ 30) c.requires in
    rw (to_z_pos w64 c.args.weight fits, to_z-of_z w64 c.args.factor c.ranges.factor) (omega (arith, ints))

pub returns : goal.returns
returns c =
    let fits : c.args.weight < 2 ^ 63 = omega arith in
    to_z-of_z w64 _ (overflow_mul-result c) ∙ ap₂ ◌*ℤ◌ (to_z_pos w64 c.args.weight fits) (to_z-of_z w64 c.args.factor c.ranges.factor)
