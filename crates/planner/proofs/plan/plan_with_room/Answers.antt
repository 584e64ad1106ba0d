use Rattle.std.proofs.Common.{None, List, ℕ, Option, ap, ◌∙◌, arith}
use Rattle.optimum.specs.Coldest.{plan}
use Rattle.optimum.specs.Plans.{price}
use Rattle.optimum.proofs.Marks.{walk_back}
use Rattle.slots.specs.Judging.{price_refusal}
use Rattle.slots.specs.Refusals.{told}
use Rattle.slots.specs.SlotTerms.{day_terms}
use Rattle.slots.specs.declared.refusal.Refusal.{Refusal}
use Rattle.planner.proofs.SlotPlans.{plan_of}
use Rattle.planner.proofs.plan.plan_with_room.Goals as goal

pub lean_forward-requires : goal.lean_forward-requires
lean_forward-requires g c =
    let slots = c.args.slots.now in
    let best = plan_of g.C.Curve.ground g.C.Curve.steps g.met.C.Curve.rising g.met.C.Curve.bounded slots.list.now slots.few slots.proper in
    record { within = rw (c.walk_back.ensures, c.sweep.ensures, best.walked) best.within; lean_each = c.requires.lean_each }

pub lean_backward-requires : goal.lean_backward-requires
lean_backward-requires g c =
    let slots = c.args.slots.now in
    let best = plan_of g.C.Curve.ground g.C.Curve.steps g.met.C.Curve.rising g.met.C.Curve.bounded slots.list.now slots.few slots.proper in
    record {
      level_each = rw (c.walk_back.ensures, c.sweep.ensures, best.walked) best.each;
      lean_each = omega arith;
      small = rw (c.lean_forward.ensures, c.walk_back.ensures, c.sweep.ensures, best.walked) best.small;
    }

pub returns : goal.returns
returns g c =
    let slots = c.args.slots.now in
    let ts = day_terms g.C.Curve.ground g.C.Curve.steps slots.list.now in
    let best = plan_of g.C.Curve.ground g.C.Curve.steps g.met.C.Curve.rising g.met.C.Curve.bounded slots.list.now slots.few slots.proper in
    let found = c.walk_back.ensures ∙ ap walk_back c.sweep.ensures ∙ best.walked in
    record {
      cost = c.price.ensures ∙ ap (λ (ls : List ℕ). told (price_refusal ts ls) (price None ts ls)) found ∙ ap (λ (r : Option Refusal). told r (price None ts (plan None ts))) best.accepted;
      levels = found;
      obeys = rw (c.lean_backward.ensures, c.lean_forward.ensures, found) best.obeys;
    }
