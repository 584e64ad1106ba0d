use Rattle.std.proofs.Common.{arith}
use Rattle.std.proofs.lemmas.Bool.Decides.{nat_tests}
use Rattle.std.proofs.lemmas.Int.{ints}
use Rattle.std.proofs.lemmas.Slice.Zip.{either_empty_from_Zip}
use Rattle.std.specs.Iterator.Adapters.{zip_first, zip_second}
use Rattle.std.specs.Slice.Iter.{iter_rest}
use Rattle.curve.specs.Tests.{and_left, and_right}
use Rattle.slots.specs.Slots.{proper, all_proper}
use Rattle.slots.proofs.Outside.{outside_head, outside_tail}
use Rattle.slots.proofs.Prices.{price_more, price_end}
use Rattle.slots.proofs.list.Slots.total.Goals as goal

pub slot_price-total-requires : goal.slot_price-total-requires
slot_price-total-requires g c =
    let turn = c.in-Some.ensures.steps in
    let left = c.next.new.self in
    let within = outside_head g.C.Curve.ground g.C.Curve.steps c.in-Some.slot.now (iter_rest (zip_first left)) c.in-Some.level.now (iter_rest (zip_second left)) turn.0 turn.1 c.loop-slot.invariant.2 in
    let fine = and_left (proper c.in-Some.slot.now) (all_proper (iter_rest (zip_first left))) (rw turn.0 at c.loop-slot.invariant.3) in
    grind (arith, nat_tests)

pub overflow_add-total : goal.overflow_add-total
overflow_add-total g c =
    let turn = c.in-Some.ensures.steps in
    let room = rw turn.0 at c.loop-slot.invariant.1 in
    omega (arith, ints)

pub loop-slot-preserved : goal.loop-slot-preserved
loop-slot-preserved g c =
    let turn = c.in-Some.ensures.steps in
    let left = c.next.new.self in
    let slots = iter_rest (zip_first left) in
    let levels = iter_rest (zip_second left) in
    let room = rw turn.0 at c.loop-slot.invariant.1 in
    let fits = overflow_add-total g c in
    let more = price_more g.C.Curve.ground g.C.Curve.steps c.loop-slot.before c.in-Some.slot.now slots c.in-Some.level.now levels turn.0 turn.1 in (
      omega (arith, ints),
      (omega (arith, ints), omega (arith, ints)),
      outside_tail g.C.Curve.ground g.C.Curve.steps c.in-Some.slot.now slots c.in-Some.level.now levels turn.0 turn.1 c.loop-slot.invariant.2,
      and_right (proper c.in-Some.slot.now) (all_proper slots) (rw turn.0 at c.loop-slot.invariant.3),
    )

pub returns : goal.returns
returns g c =
    let left = c.loop-slot.slot-iterator in
    let over = either_empty_from_Zip left c.next.new.self c.next.result c.in-None.is c.next.ensures.steps in
    let end = price_end g.C.Curve.ground g.C.Curve.steps c.loop-slot.before (iter_rest (zip_first left)) (iter_rest (zip_second left)) over in
    omega (arith, ints)
