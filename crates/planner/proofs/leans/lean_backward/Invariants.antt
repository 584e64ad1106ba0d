use Rattle.std.proofs.Common.{◌≡◌}
use Rattle.std.specs.Iterator.Adapters.{enumerate_source, enumerate_count, rev_source, zip_first, zip_second}
use Rattle.std.specs.Slice.Iter.{iter_rest}
use Rattle.planner.proofs.BackwardPass.{Made}
use Rattle.planner.proofs.leans.lean_backward.Given as goal

abbrev pub invariant-loop-i : goal.invariant-loop-i
invariant-loop-i g l =
    let left = rev_source l.i-iterator in
    let pairs = enumerate_source left in
    (enumerate_count left ≡ 0)
    × Made g.C.Curve.ground g.C.Curve.steps l.slots.list.now l.levels l.initial.leans (iter_rest (zip_first pairs)) (iter_rest (zip_second pairs)) l.leans l.next
