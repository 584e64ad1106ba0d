use Rattle.std.proofs.Common.{◌≡◌, true, drop, None}
use Rattle.std.specs.Iterator.Adapters.{enumerate_source, enumerate_count, zip_first, zip_second}
use Rattle.std.specs.Slice.Iter.{iter_rest}
use Rattle.std.specs.List.{AllByRecursion}
use Rattle.optimum.specs.Leans.{stands}
use Rattle.slots.specs.Judging.{earliest}
use Rattle.slots.specs.SlotTerms.{day_terms}
use Rattle.slots.specs.Slots.{all_proper}
use Rattle.slots.specs.Stands.{Rule, Tries, Triable}
use Rattle.slots.proofs.Earliest.{after}
use Rattle.slots.proofs.Outside.{outside}
use Rattle.slots.proofs.list.Slots.first_break.Given as goal

-- the earliest break is among the slots that are left, and those are within the bounds and may be tried
abbrev pub invariant-loop-i : goal.invariant-loop-i
invariant-loop-i g l =
    let pairs = enumerate_source l.i-iterator in
    let slots = iter_rest (zip_first (zip_first pairs)) in
    let levels = iter_rest (zip_second (zip_first pairs)) in
    let leans = iter_rest (zip_second pairs) in
    (goal.iterator-loop-i g).can_next l.i-iterator
    × (goal.iterator-loop-i g).is_finite l.i-iterator
    × ((rule : Rule) → Tries g.C.Curve.ground g.C.Curve.steps g.F.Fn l.keeps rule → earliest rule (stands None (day_terms g.C.Curve.ground g.C.Curve.steps l.self.list.now) l.levels l.leans) ≡ after (enumerate_count l.i-iterator) (earliest rule (stands l.before (day_terms g.C.Curve.ground g.C.Curve.steps slots) levels leans)))
    × (leans ≡ drop (enumerate_count l.i-iterator) l.leans)
    × (outside g.C.Curve.ground g.C.Curve.steps slots levels ≡ None)
    × (all_proper slots ≡ true)
    × AllByRecursion (Triable g.C.Curve.ground g.C.Curve.steps g.F.Fn l.keeps) (stands l.before (day_terms g.C.Curve.ground g.C.Curve.steps slots) levels leans)
