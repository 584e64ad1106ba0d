use Rattle.std.proofs.Common.{◌≡◌, length, arith}
use Rattle.std.specs.Slice.Iter.{iter_rest}
use Rattle.std.specs.Iterator.Adapters.{enumerate_source, rev_source}
use Rattle.optimum.proofs.Sweep.{held}
use Rattle.planner.proofs.Walks.{walked_none, walked_more}
use Rattle.planner.proofs.walk.walk_back.Goals as goal

pub loop-i-init : goal.loop-i-init
loop-i-init c =
    let all : iter_rest (enumerate_source (rev_source c.into_iter-i-iterator.result)) ≡ c.args.marks.now = cc in
    (cc, rw all (walked_none c.args.levels.now c.requires.level_each))

pub loop-i-preserved : goal.loop-i-preserved
unfolding held
loop-i-preserved c =
    let turn = c.in-Some.ensures.steps in
    let walked = c.loop-i.invariant.1 in
    let here : c.in-Some.i ≡ length (iter_rest (enumerate_source (rev_source c.next.new.self))) = omega arith in
    (omega arith, rw here (walked_more walked _ c.in-Some.field-0-1.now _ turn.1.0 (omega arith) (omega arith)))
