use Rattle.std.proofs.Common.{◌≡◌}
use Rattle.std.specs.Iterator.Adapters.{enumerate_source, enumerate_count, rev_source}
use Rattle.std.specs.Slice.Iter.{iter_rest}
use Rattle.planner.proofs.Walks.{Walked}
use Rattle.planner.proofs.walk.walk_back.Given as goal

abbrev pub invariant-loop-i : goal.invariant-loop-i
invariant-loop-i l =
    let left = rev_source l.i-iterator in
    (enumerate_count left ≡ 0) × Walked l.marks (iter_rest (enumerate_source left)) l.levels l.level
