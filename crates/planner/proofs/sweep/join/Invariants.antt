use Rattle.std.proofs.Common.{ℕ, get_or, pos, ◌+ℤ◌}
use Rattle.planner.proofs.Tables.{Filled}
use Rattle.planner.proofs.sweep.join.Given as goal

abbrev pub invariant-loop-level : goal.invariant-loop-level
invariant-loop-level g l =
    Filled l.initial.table (λ (v : ℕ). get_or l.initial.table v (pos 0) +ℤ g.C.Curve.steps l.slot.curve v) l.slot.low l.level l.table
