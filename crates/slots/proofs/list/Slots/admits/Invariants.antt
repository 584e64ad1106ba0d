use Rattle.std.proofs.Common.{◌≡◌}
use Rattle.std.specs.Iterator.Adapters.{enumerate_source, enumerate_count, zip_first, zip_second}
use Rattle.std.specs.Slice.Iter.{iter_rest}
use Rattle.slots.proofs.Earliest.{after}
use Rattle.slots.proofs.Outside.{outside}
use Rattle.slots.proofs.list.Slots.admits.Given as goal

abbrev pub invariant-loop-i : goal.invariant-loop-i
invariant-loop-i g l =
    let slots = iter_rest (zip_first (enumerate_source l.i-iterator)) in
    let levels = iter_rest (zip_second (enumerate_source l.i-iterator)) in
    (goal.iterator-loop-i g).can_next l.i-iterator
    × (goal.iterator-loop-i g).is_finite l.i-iterator
    × (outside g.C.Curve.ground g.C.Curve.steps l.self.list.now l.levels ≡ after (enumerate_count l.i-iterator) (outside g.C.Curve.ground g.C.Curve.steps slots levels))
