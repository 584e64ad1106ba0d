use Rattle.std.proofs.Common.{◌-◌, arith}
use Rattle.std.proofs.lemmas.Int.{ints, clamps}
use Rattle.optimum.proofs.LeanPasses.{forward_rise, forward_fall, forward_lowest, forward_stay}
use Rattle.slots.specs.SlotTerms.{slot_terms}
use Rattle.planner.proofs.SlotSizes.{step_read}
use Rattle.planner.proofs.leans.forward_lean.Goals as goal

pub overflow_add-lean : goal.overflow_add-lean
overflow_add-lean g c =
    let read = step_read g.C.Curve.ground g.C.Curve.steps g.met.C.Curve.bounded c.args.before.now in
    let step = read (c.args.level - 1) c.step.result c.requires.proper.0 (omega (arith, c.requires.proper.2)) c.step.ensures in
    omega (arith, ints)

pub returns-then-from-level : goal.returns-then-from-level
returns-then-from-level g c =
    let terms = slot_terms g.C.Curve.ground g.C.Curve.steps in
    let rise = forward_rise (terms c.args.before.now) c.args.from c.args.lean (terms c.args.slot.now) c.args.level c.if-from-level.true in
    omega (arith, ints)

pub returns-then-level-from : goal.returns-then-level-from
returns-then-level-from g c =
    let terms = slot_terms g.C.Curve.ground g.C.Curve.steps in
    let fall = forward_fall (terms c.args.before.now) c.args.from c.args.lean (terms c.args.slot.now) c.args.level c.if-level-from.true in
    omega (arith, ints)

pub returns-then-before-level : goal.returns-then-before-level
returns-then-before-level g c =
    let terms = slot_terms g.C.Curve.ground g.C.Curve.steps in
    let read = step_read g.C.Curve.ground g.C.Curve.steps g.met.C.Curve.bounded c.args.before.now in
    let step = read (c.args.level - 1) c.step.result c.requires.proper.0 (omega (arith, c.requires.proper.2)) c.step.ensures in
    let stay = forward_stay (terms c.args.before.now) c.args.from c.args.lean (terms c.args.slot.now) c.args.level (omega arith) c.if-before-level.true in
    omega (arith, ints, clamps)

pub returns-else-before-level : goal.returns-else-before-level
returns-else-before-level g c =
    let terms = slot_terms g.C.Curve.ground g.C.Curve.steps in
    let lowest = forward_lowest (terms c.args.before.now) c.args.from c.args.lean (terms c.args.slot.now) c.args.level (omega arith) c.if-before-level.false in
    omega (arith, ints)
