use Rattle.std.proofs.Common.{◌≤◌, arith}
use native.Mathlib.Nat.{min-eq_left}
use Rattle.std.proofs.lemmas.Int.{ints}
use Rattle.std.proofs.lemmas.Bool.Decides.{nat_tests}
use Rattle.curve.specs.Limits.{last_step}
use Rattle.planner.proofs.Tables.{filled_next, filled_more}
use Rattle.planner.proofs.sweep.join.Goals as goal

pub overflow_add-table : goal.overflow_add-table
overflow_add-table g c =
    let level = c.loop-level.level in
    let below : level ≤ last_step = grind (arith, nat_tests) in
    let same = filled_next c.loop-level.invariant below in
    let small = c.requires.small level (omega arith) (omega arith) in
    let step = g.met.C.Curve.bounded c.args.slot.now.curve level below in
    let asked = rw (min-eq_left below) at c.step.ensures in
    omega (arith, ints)

pub loop-level-preserved : goal.loop-level-preserved
loop-level-preserved g c =
    let level = c.loop-level.level in
    let below : level ≤ last_step = grind (arith, nat_tests) in
    let same = filled_next c.loop-level.invariant below in
    let asked = rw (min-eq_left below) at c.step.ensures in
    let fits = overflow_add-table g c in
    filled_more c.loop-level.invariant (omega arith) below (omega (arith, ints))
