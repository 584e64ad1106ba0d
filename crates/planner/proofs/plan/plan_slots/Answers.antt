use Rattle.std.proofs.Common.{◌≡◌, ℕ, ◌*◌, ◌≤◌, List, ◌++◌, length, take, drop, ℤ, None, refl, arith}
use Rattle.std.proofs.lemmas.List.{length-map, take_at, drop_at}
use Rattle.std.proofs.lemmas.Bool.Decides.{nat_tests}
use Rattle.optimum.specs.Coldest.{plan}
use Rattle.optimum.specs.Leans.{Obeys}
use Rattle.optimum.specs.Plans.{Terms}
use Rattle.slots.specs.Limits.{table_length}
use Rattle.slots.specs.SlotTerms.{slot_terms}
use Rattle.planner.specs.Planning.{plan_refusal}
use Rattle.planner.proofs.SlotPlans.{plan_of}
use Rattle.planner.proofs.plan.plan_slots.Goals as goal

-- where the buffers are long enough, nothing is refused
accepted : (n levels leans table marks : ℕ) → n ≤ levels → n ≤ leans → table_length ≤ table → 2 * n ≤ marks → plan_refusal n levels leans table marks ≡ None
accepted n levels leans table marks levels_fit leans_fit table_fits marks_fit = grind (arith, nat_tests)

pub returns-clause-levels : goal.returns-clause-levels
returns-clause-levels g c =
    let slots = c.args.slots.now in
    let best = plan_of g.C.Curve.ground g.C.Curve.steps g.met.C.Curve.rising g.met.C.Curve.bounded slots.list.now slots.few slots.proper in
    let room = accepted _ _ _ _ _ c.if-levels-count.false c.if-leans-count.false c.in-Some.ensures.cases.enough c.if-marks-count.false in
    rw (room, c.plan_with_room.ensures.levels, best.each)

-- leans before what the buffer had behind the day
led :
    (ts : List Terms) (n : ℕ) (leans before after : List ℤ) → length ts ≡ n → length leans ≡ n → after ≡ leans ++ drop n before → Obeys None ts (plan None ts) leans →
    Obeys None ts (plan None ts) (take (length ts) after) × (drop (length ts) after ≡ drop (length ts) before)
led ts n leans before after all many is obeys = rw (is, all, take_at leans (drop n before) n many, drop_at leans (drop n before) n many) (obeys, refl)

pub returns-clause-leans : goal.returns-clause-leans
returns-clause-leans g c =
    let slots = c.args.slots.now.list.now in
    let room = accepted _ _ _ _ _ c.if-levels-count.false c.if-leans-count.false c.in-Some.ensures.cases.enough c.if-marks-count.false in
    let all = length-map slots (slot_terms g.C.Curve.ground g.C.Curve.steps) in
    rw room (led _ (length slots) c.plan_with_room.new.leans c.args.leans.now _ all (omega arith) (cc) c.plan_with_room.ensures.obeys)
