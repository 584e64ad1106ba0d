use Rattle.std.proofs.Common.{◌≤◌, drop, None}
use Rattle.std.specs.Fmt.{IsPlainFormatter}
use Rattle.std.specs.List.{AllByRecursion}
use Rattle.std.specs.Slice.Iter.{iter_rest}
use Rattle.curve.specs.Limits.{top}
use Rattle.slots.specs.SlotTerms.{day_terms}
use Rattle.report.specs.Reports.{slot_lines}
use Rattle.report.proofs.Writing.{WrittenBut}
use Rattle.report.proofs.lines.put_lines.Given as goal

-- of all lines, those of the slots from the next on are still to come
abbrev pub invariant-loop-i : goal.invariant-loop-i
invariant-loop-i g l =
    (IsPlainFormatter l.initial.f →
    WrittenBut
    g.W.Write.write_str_gives
    l.initial.f
    (slot_lines 0 (day_terms g.C.Curve.ground g.C.Curve.steps l.slots) None (iter_rest l.initial.following.left))
    (slot_lines l.i (day_terms g.C.Curve.ground g.C.Curve.steps (drop l.i l.slots)) l.before (iter_rest l.following.left))
    l.f)
    × AllByRecursion (λ x. x ≤ top) (iter_rest l.following.left)
