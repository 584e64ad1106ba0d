use Rattle.std.proofs.Common.{drop}
use Rattle.slots.specs.SlotTerms.{day_terms}
use Rattle.planner.proofs.Swept.{Swept}
use Rattle.planner.proofs.sweep.sweep.Given as goal

abbrev pub invariant-loop-i : goal.invariant-loop-i
invariant-loop-i g l =
    Swept
    (day_terms g.C.Curve.ground g.C.Curve.steps l.slots.list.now)
    l.i
    (day_terms g.C.Curve.ground g.C.Curve.steps (drop l.i l.slots.list.now))
    l.table
    l.marks
