use Rattle.std.proofs.Common.{◌≡◌, ◌≤◌, get_or, pos, neg_ℤ, arith}
use Rattle.std.specs.Int.{int_max, int_min}
use Rattle.std.proofs.lemmas.Int.{ints, clamps}
use Rattle.std.proofs.lemmas.Bool.Decides.{nat_tests}
use Rattle.curve.specs.Limits.{last_step}
use Rattle.planner.proofs.Tables.{filled_next, filled_more}
use Rattle.planner.proofs.sweep.pass_on.Goals as goal
use Rattle.planner.proofs.sweep.pass_on.Goals.{then-level-slot, else-level-slot+then-level-slot-2, else-level-slot+else-level-slot-2}

pub loop-level-preserved : goal.loop-level-preserved
loop-level-preserved g c =
    let before = c.args.table.now in
    let level = c.loop-level.level in
    let below : level ≤ last_step = grind (arith, nat_tests) in
    let same = filled_next c.loop-level.invariant below in
    filled_more c.loop-level.invariant (omega arith) below (
    elim c.if-level-slot.branch [
      | then-level-slot w ↦ grind (arith, ints, nat_tests)
      | else-level-slot+then-level-slot-2 w ↦
          let held : c.if-level-slot.table ≡ int_max (neg_ℤ (pos c.args.next.now.down)) (int_min (get_or before level (pos 0)) (pos c.args.next.now.up)) = omega (arith, ints, clamps) in
          grind (arith, nat_tests)
      | else-level-slot+else-level-slot-2 w ↦ grind (arith, ints, nat_tests)
    ]
    )
