use Rattle.std.proofs.Common.{ap, add-one, arith}
use Rattle.std.proofs.Math.Nat.{min-eq_left}
use Rattle.std.proofs.lemmas.Int.{ints}
use Rattle.curve.specs.Limits.{last_step}
use Rattle.curve.specs.Meaning.{cost}
use Rattle.curve.specs.Costs.{cost_none, cost_more, cost_bounded}
use Rattle.curve.proofs.cost.cost_at.Goals as goal

pub loop-below-init : goal.loop-below-init
loop-below-init g c =
    let none = cost_none (g.C.Curve.ground c.args.curve.now) (g.C.Curve.steps c.args.curve.now) in
    omega (arith, ints)

pub overflow_add-cost : goal.overflow_add-cost
overflow_add-cost g c =
    let curve = c.args.curve.now in
    let i = c.loop-below.below in
    let small = cost_bounded (g.C.Curve.ground curve) (g.C.Curve.steps curve) (g.met.C.Curve.grounded curve) (g.met.C.Curve.bounded curve) i (omega arith) in
    let step = g.met.C.Curve.bounded curve i (omega arith) in
    let asked = rw (min-eq_left {n = i} {m = last_step} (omega arith)) at c.step-cost.ensures in
    omega (arith, ints, c.loop-below.invariant)

pub loop-below-preserved : goal.loop-below-preserved
loop-below-preserved g c =
    let curve = c.args.curve.now in
    let i = c.loop-below.below in
    let more = cost_more (g.C.Curve.ground curve) (g.C.Curve.steps curve) i in
    let next = ap (cost (g.C.Curve.ground curve) (g.C.Curve.steps curve)) (add-one i) in
    let asked = rw (min-eq_left {n = i} {m = last_step} (omega arith)) at c.step-cost.ensures in
    let fits = overflow_add-cost g c in
    omega (arith, ints, c.loop-below.invariant)
