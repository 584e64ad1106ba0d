use Rattle.std.proofs.Common.{None, refl, ◌∙◌, arith, rules}
use Rattle.std.proofs.lemmas.List.{length-map}
use Rattle.std.proofs.lemmas.Slice.Zip.{either_empty_from_Zip}
use Rattle.std.proofs.lemmas.Bool.Decides.{nat_tests}
use Rattle.std.specs.Iterator.Adapters.{enumerate_source, enumerate_count, zip_first, zip_second}
use Rattle.std.specs.Slice.Iter.{iter_rest}
use Rattle.slots.proofs.Outside.{outside_more, outside_here, outside_end}
use Rattle.slots.proofs.list.Slots.admits.Goals as goal

pub returns-then-not-allows : goal.returns-then-not-allows
returns-then-not-allows g c =
    let turn = c.in-Some.ensures.steps in
    let left = enumerate_source c.next.new.self in
    let here = outside_here g.C.Curve.ground g.C.Curve.steps (enumerate_count c.loop-i.i-iterator) c.in-Some.i c.in-Some.slot.now (iter_rest (zip_first left)) c.in-Some.level.now (iter_rest (zip_second left)) turn.0.0 turn.0.1 (cc) turn.1 in
    let found = c.loop-i.invariant.2 ∙ here in
    grind (arith, nat_tests, length-map, found)

pub loop-i-preserved : goal.loop-i-preserved
loop-i-preserved g c =
    let turn = c.in-Some.ensures.steps in
    let left = enumerate_source c.next.new.self in
    let passed = outside_more g.C.Curve.ground g.C.Curve.steps (enumerate_count c.loop-i.i-iterator) (enumerate_count c.next.new.self) c.in-Some.slot.now (iter_rest (zip_first left)) c.in-Some.level.now (iter_rest (zip_second left)) turn.0.0 turn.0.1 (cc) turn.2 in
    (search rules, search rules, c.loop-i.invariant.2 ∙ passed)

pub returns : goal.returns
returns g c =
    let left = enumerate_source c.loop-i.i-iterator in
    let over = either_empty_from_Zip left (enumerate_source c.next.new.self) None refl c.in-None.ensures.steps.0 in
    let none = c.loop-i.invariant.2 ∙ outside_end g.C.Curve.ground g.C.Curve.steps (enumerate_count c.loop-i.i-iterator) (iter_rest (zip_first left)) (iter_rest (zip_second left)) over in
    grind (arith, nat_tests, length-map, none)
