use Rattle.std.proofs.Common.{◌≡◌, true, length, ◌+ℤ◌, None}
use Rattle.std.specs.Iterator.Adapters.{zip_first, zip_second}
use Rattle.std.specs.Slice.Iter.{iter_rest}
use Rattle.optimum.specs.Plans.{price}
use Rattle.slots.specs.SlotTerms.{day_terms}
use Rattle.slots.specs.Slots.{all_proper}
use Rattle.slots.proofs.Outside.{outside}
use Rattle.slots.proofs.Prices.{Room}
use Rattle.slots.proofs.list.Slots.total.Given as goal

abbrev pub invariant-loop-slot : goal.invariant-loop-slot
invariant-loop-slot g l =
    let slots = iter_rest (zip_first l.slot-iterator) in
    let levels = iter_rest (zip_second l.slot-iterator) in
    (l.total +ℤ price l.before (day_terms g.C.Curve.ground g.C.Curve.steps slots) levels ≡ price None (day_terms g.C.Curve.ground g.C.Curve.steps l.self.list.now) l.levels)
    × Room l.total (length slots)
    × (outside g.C.Curve.ground g.C.Curve.steps slots levels ≡ None)
    × (all_proper slots ≡ true)
