use Rattle.std.proofs.Common.{◌≡◌, length, get_or, pos, arith, rules, w64, SFits}
use Rattle.std.proofs.lemmas.Int.{ints, to_z-of_z}
use Rattle.std.specs.Iterator.Adapters.{enumerate_source, rev_source, zip_first, zip_second}
use Rattle.std.specs.Slice.Iter.{iter_rest}
use Rattle.planner.proofs.BackwardPass.{made_none, still_each, slot_proper, small_lean, next_small, made_more}
use Rattle.planner.proofs.leans.lean_backward.Goals as goal

pub loop-i-init : goal.loop-i-init
loop-i-init g c =
    let slots : iter_rest (zip_first (enumerate_source (rev_source c.into_iter-i-iterator.result))) ≡ c.args.slots.now.list.now = cc in
    let levels : iter_rest (zip_second (enumerate_source (rev_source c.into_iter-i-iterator.result))) ≡ c.args.levels.now = cc in
    (cc, rw (slots, levels) (made_none g.C.Curve.ground g.C.Curve.steps c.args.slots.now.list.now c.args.levels.now c.args.leans.now c.args.slots.now.proper c.requires.level_each c.requires.lean_each))

pub backward_lean-next-requires : goal.backward_lean-next-requires
backward_lean-next-requires g c =
    let turn = c.in-Some.ensures.steps.1 in
    let m = c.loop-i.invariant.1 in
    let each = m.each in
    let left = enumerate_source (rev_source c.next.new.self) in
    let ss = iter_rest (zip_first left) in
    let xs = iter_rest (zip_second left) in
    let slots = turn.0.0.3 (omega arith) in
    let levels = turn.0.1.3 (omega arith) in
    let still = still_each _ _ m ss c.in-Some.slot.now xs c.in-Some.level.now slots levels in
    let here : c.in-Some.i ≡ length ss = omega arith in
    let own = small_lean _ _ m ss c.in-Some.slot.now xs c.in-Some.level.now slots levels c.requires.small c.requires.lean_each in
    let next = next_small _ _ m c.args.slots.now.few in
    record {
      proper = slot_proper _ _ m ss c.in-Some.slot.now xs c.in-Some.level.now slots levels;
      small = (rw here (record { least = omega (arith, ints); most = omega (arith, ints) }), next);
    }

pub loop-i-preserved : goal.loop-i-preserved
loop-i-preserved g c =
    let turn = c.in-Some.ensures.steps.1 in
    let m = c.loop-i.invariant.1 in
    let each = m.each in
    let left = enumerate_source (rev_source c.next.new.self) in
    let ss = iter_rest (zip_first left) in
    let xs = iter_rest (zip_second left) in
    let slots = turn.0.0.3 (omega arith) in
    let levels = turn.0.1.3 (omega arith) in
    let still = still_each _ _ m ss c.in-Some.slot.now xs c.in-Some.level.now slots levels in
    let here : c.in-Some.i ≡ length ss = omega arith in
    let fits : SFits w64 (get_or c.loop-i.leans (length ss) (pos 0)) = search rules in
    let made = rw (here, to_z-of_z w64 (get_or c.loop-i.leans (length ss) (pos 0)) fits) at c.backward_lean-next.ensures in
    (omega arith, rw here (made_more _ _ m ss c.in-Some.slot.now xs c.in-Some.level.now slots levels c.requires.small c.requires.lean_each g.met.C.Curve.bounded _ (omega arith) (omega (arith, ints))))
