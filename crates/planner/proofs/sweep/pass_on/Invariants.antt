use Rattle.std.proofs.Common.{ℕ, cond, ltb, get_or, pos, neg_ℤ}
use Rattle.std.specs.Int.{int_max, int_min}
use Rattle.planner.proofs.Tables.{Filled}
use Rattle.planner.proofs.sweep.pass_on.Given as goal

abbrev pub invariant-loop-level : goal.invariant-loop-level
invariant-loop-level g l =
    Filled
    l.initial.table
    (λ (v : ℕ). cond (ltb v l.slot.low) (neg_ℤ (pos l.next.down)) (cond (ltb v l.slot.high) (int_max (neg_ℤ (pos l.next.down)) (int_min (get_or l.initial.table v (pos 0)) (pos l.next.up))) (pos l.next.up)))
    l.next.low
    l.level
    l.table
