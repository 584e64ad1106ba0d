use Rattle.std.proofs.Common.{◌≡◌, ◌+◌, ◌≤◌, [], length, drop, ap, ◌∙◌, arith, rules}
use Rattle.std.proofs.lemmas.List.{drop_all}
use Rattle.optimum.proofs.Sweep.{next_up, next_down}
use Rattle.slots.specs.SlotTerms.{slot_terms}
use Rattle.slots.specs.Slots.{proper}
use Rattle.planner.proofs.Convexity.{slot_convex, slot_open}
use Rattle.planner.proofs.ProperSlots.{proper_at, proper_drop, proper_tolls, holds_zero, drop_read}
use Rattle.planner.proofs.SlotSweeps.{passed_held}
use Rattle.planner.proofs.Swept.{swept_none, table_small, table_rising, swept_more, swept_all}
use Rattle.planner.proofs.sweep.sweep.Goals as goal
use Rattle.planner.proofs.sweep.sweep.Goals.{in-Some, in_default}

pub loop-i-init : goal.loop-i-init
loop-i-init g c = swept_none (holds_zero g.C.Curve.ground g.C.Curve.steps c.args.slots.now.list.now c.fill.new.self c.args.slots.now.proper (search rules))

pub sweep_slot-requires : goal.sweep_slot-requires
sweep_slot-requires g c =
    let slots = c.args.slots.now.list.now in
    let so_far = rw (drop_read slots c.loop-i.i c.slot-item.result (omega arith) c.slot-item.is) at c.loop-i.invariant in
    record {
      proper = ap proper c.slot-item.is ∙ proper_at slots c.loop-i.i _ (omega arith) c.args.slots.now.proper;
      small = table_small so_far;
      rising = table_rising so_far;
    }

pub pass_on-requires : goal.pass_on-requires
pass_on-requires g c =
    let next = c.in-Some.ensures.lookup in
    record { proper = ap proper next.1 ∙ proper_at c.args.slots.now.list.now (c.loop-i.i + 1) c.in-Some.next.now next.3.0 c.args.slots.now.proper }

pub loop-i-preserved : goal.loop-i-preserved
unfolding next_up next_down
loop-i-preserved g c =
    let slots = c.args.slots.now.list.now in
    let i = c.loop-i.i in
    let terms = slot_terms g.C.Curve.ground g.C.Curve.steps in
    let here = drop_read slots i c.slot-item.result (omega arith) c.slot-item.is in
    let so_far = rw here at c.loop-i.invariant in
    let small = proper_tolls g.C.Curve.ground g.C.Curve.steps (drop (i + 1) slots) (proper_drop (i + 1) slots c.args.slots.now.proper) in
    let good = ap proper c.slot-item.is ∙ proper_at slots i _ (omega arith) c.args.slots.now.proper in
    let convex = slot_convex g.C.Curve.ground g.C.Curve.steps g.met.C.Curve.rising c.slot-item.result good in
    let opens = slot_open g.C.Curve.ground g.C.Curve.steps c.slot-item.result good in
    elim c.match-next.branch [
      | in-Some w ↦
          let read = w.in-Some.ensures.lookup in
          let next = drop_read slots (i + 1) w.in-Some.next.now read.3.0 read.1 in
          let tolls : c.map_or-up.result ≡ (w.in-Some.next.now.up, w.in-Some.next.now.down) = search rules in
          rw (next, w.table-is) (
          swept_more (rw next at so_far) (omega arith) convex opens (cc) (cc) (rw next at small) c.sweep_slot.ensures.levels
          (λ message holds. passed_held (terms c.slot-item.result) (terms w.in-Some.next.now) _ _ message (c.sweep_slot.ensures.after message holds) w.pass_on.ensures)
          )
      | in_default w ↦
          let tolls : c.map_or-up.result ≡ (0, 0) = search rules in
          let over : length slots ≤ i + 1 = search rules in
          let none : drop (i + 1) slots ≡ [] = drop_all (i + 1) slots over in
          rw (none) (swept_more (rw none at so_far) (omega arith) convex opens (cc) (cc) (rw none at small) c.sweep_slot.ensures.levels (λ message holds. tt))
    ]

pub returns : goal.returns
returns g c =
    let slots = c.args.slots.now.list.now in
    let end : c.loop-i.i ≡ length slots = omega arith in
    let none : drop (length slots) slots ≡ [] = drop_all (length slots) slots (omega arith) in
    swept_all c.loop-i.marks (rw (end, none) at c.loop-i.invariant) (omega arith)
