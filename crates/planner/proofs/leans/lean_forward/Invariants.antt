use Rattle.std.specs.Iterator.Adapters.{enumerate_source, enumerate_count, zip_first, zip_second}
use Rattle.std.specs.Slice.Iter.{iter_rest}
use Rattle.planner.proofs.ForwardPass.{Led}
use Rattle.planner.proofs.leans.lean_forward.Given as goal

abbrev pub invariant-loop-i : goal.invariant-loop-i
invariant-loop-i g l =
    let pairs = enumerate_source l.i-iterator in
    Led g.C.Curve.ground g.C.Curve.steps l.slots.list.now l.levels
    (enumerate_count l.i-iterator) l.leans l.before (iter_rest (zip_first pairs)) (iter_rest (zip_second pairs))
