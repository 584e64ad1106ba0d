use Rattle.std.proofs.Common.{◌&&◌, int_le, rules, w32}
use Rattle.std.proofs.lemmas.Int.{to_z-of_z}
use Rattle.curve.specs.Limits.{held_by, rate_limit}
use Rattle.curve.proofs.knots.never_falls.Goals as goal

pub returns : goal.returns
returns c =
    let all = c.each_follows.ensures (λ before step. int_le before step && held_by rate_limit step) (λ before step r called. search rules) in
    rw (to_z-of_z w32 c.args.first c.ranges.first) at all
