use Rattle.std.proofs.Common.{◌≡◌, ℕ, ◌-◌, List, length, take, ℤ, None, ap, ◌∙◌}
use native.Mathlib.Nat.{sub-zero}
use Rattle.optimum.specs.Coldest.{plan}
use Rattle.optimum.specs.Plans.{price}
use Rattle.planner.specs.Planning.{short_for}
use Rattle.slots.specs.Judging.{check_refusal}
use Rattle.slots.specs.SlotTerms.{day_terms}
use Rattle.report.proofs.PlanPasses.{answered_none, answers_both, planned_front, planned_accepted}
use Rattle.report.proofs.checked.checked_plan.Goals as goal

pub returns : goal.returns
returns g c =
    let day = c.args.day.now in
    let slots = take day.count day.slots.now in
    let ts = day_terms g.C.Curve.ground g.C.Curve.steps slots in
    let made = c.in_ok-plan.ensures in
    let short = short_for day.count c.args.levels.now c.args.leans.now c.args.table.now c.args.marks.now in
    let none : short ≡ None = answered_none short _ _ made.answer in
    let count = sub-zero (length c.slots-count.result.now) ∙ ap length c.slots-count.ensures in
    let front = ap (λ (k : ℕ). take k c.plan.new.levels) count ∙ planned_front g.C.Curve.ground g.C.Curve.steps g.met.C.Curve.rising slots day.proper short _ _ none made.levels in
    let leans = ap (λ (k : ℕ). take k c.plan.new.leans) count in
    let accepted = ap (λ (ls : List ℤ). check_refusal ts (plan None ts) ls) leans ∙ planned_accepted g.C.Curve.ground g.C.Curve.steps g.met.C.Curve.rising slots day.proper short _ _ none made.leans in
    answers_both c.check.result _ short _ _ none (ap (λ (xs : List ℕ). check_refusal ts xs (take (length c.slots-count.result.now - 0) c.plan.new.leans)) front ∙ accepted) (λ p held. (ap (λ x. x.now) held.0 ∙ front, held.1 ∙ ap (price None ts) front)) c.check.ensures.answer
