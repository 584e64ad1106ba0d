use Rattle.std.proofs.Common.{sym, ◌∙◌, arith, w64}
use Rattle.std.proofs.lemmas.Int.{ints, clamps, to_z-of_z}
use Rattle.optimum.proofs.LeanPasses.{backward_raised, backward_top}
use Rattle.slots.specs.SlotTerms.{slot_terms}
use Rattle.planner.proofs.SlotSizes.{step_read}
use Rattle.planner.proofs.leans.backward_lean.Goals as goal

pub overflow_sub-next : goal.overflow_sub-next
overflow_sub-next g c =
    let read = step_read g.C.Curve.ground g.C.Curve.steps g.met.C.Curve.bounded c.args.slot.now in
    let step = read c.args.level c.step.result c.requires.proper c.if-level-slot.true c.step.ensures in
    omega (arith, ints, c.requires.small)

pub returns-then-level-slot : goal.returns-then-level-slot
returns-then-level-slot g c =
    let t = slot_terms g.C.Curve.ground g.C.Curve.steps c.args.slot.now in
    let read = step_read g.C.Curve.ground g.C.Curve.steps g.met.C.Curve.bounded c.args.slot.now in
    let step = read c.args.level c.step.result c.requires.proper c.if-level-slot.true c.step.ensures in
    let raised = backward_raised t c.args.level c.args.lean c.args.next c.if-level-slot.true in
    omega (arith, ints, clamps, c.requires.small)

pub returns-else-level-slot : goal.returns-else-level-slot
returns-else-level-slot g c =
    let t = slot_terms g.C.Curve.ground g.C.Curve.steps c.args.slot.now in
    to_z-of_z w64 c.args.lean c.ranges.lean ∙ sym (backward_top t c.args.level c.args.lean c.args.next c.if-level-slot.false)
