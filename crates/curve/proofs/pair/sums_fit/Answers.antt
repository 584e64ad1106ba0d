use Rattle.std.proofs.Common.{arith}
use Rattle.std.proofs.lemmas.Int.{ints, to_z-of_z}
use Rattle.std.proofs.lemmas.Bool.Decides.{nat_tests}
use Rattle.curve.specs.PairsLemmas.{ends_decide}
use Rattle.curve.proofs.pair.sums_fit.Goals as goal
use Rattle.curve.proofs.pair.sums_fit.Goals.{then-held_by, else-held_by}

pub returns-then-step_sum : goal.returns-then-step_sum
returns-then-step_sum g c =
    let ends = ends_decide (g.A.Curve.ground c.args.first.now) (g.B.Curve.ground c.args.second.now) (g.A.Curve.steps c.args.first.now) (g.B.Curve.steps c.args.second.now) (g.met.A.Curve.rising c.args.first.now) (g.met.B.Curve.rising c.args.second.now) in
    elim c.if-held_by.branch [ then-held_by w ↦ rw ends (grind (arith, ints, to_z-of_z, nat_tests)) | else-held_by w ↦ cc ]

pub returns-else-step_sum : goal.returns-else-step_sum
returns-else-step_sum g c =
    let ends = ends_decide (g.A.Curve.ground c.args.first.now) (g.B.Curve.ground c.args.second.now) (g.A.Curve.steps c.args.first.now) (g.B.Curve.steps c.args.second.now) (g.met.A.Curve.rising c.args.first.now) (g.met.B.Curve.rising c.args.second.now) in
    elim c.if-held_by.branch [ then-held_by w ↦ rw ends (grind (arith, ints, to_z-of_z, nat_tests)) | else-held_by w ↦ rw ends (grind (arith, ints, to_z-of_z, nat_tests)) ]
