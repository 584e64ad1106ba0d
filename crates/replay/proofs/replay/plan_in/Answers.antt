use Rattle.std.proofs.Common.{◌≡◌, length, take, vec_len, ap, ◌∙◌, ap₂, w64, SFits, rules}
use Rattle.std.proofs.lemmas.List.{length-take-le, with_items_is}
use Rattle.std.proofs.lemmas.Int.{to_z-of_z}
use Rattle.planner.specs.Planning.{plan_refusal}
use Rattle.day.specs.View.{plain}
use Rattle.replay.proofs.Planned.{plan_answered}
use Rattle.replay.proofs.replay.plan_in.Given as given
use Rattle.replay.proofs.replay.plan_in.Goals as goal
use Rattle.replay.proofs.replay.plan_in.Goals.{After-plan}

-- each buffer is as long as was asked, and the slots are as many as the day counts
as_asked :
    (g : given.Over) (c : After-plan g) →
    plan_refusal c.args.day.now.count (length c.deref_mut.result.now) (length c.deref_mut-2.result.now) (length c.deref_mut-3.result.now) (length c.deref_mut-4.result.now)
    ≡ plan_refusal (length (plain c.args.day.now).slots) (vec_len c.args.levels) (vec_len c.args.leans) (vec_len c.args.table) (vec_len c.args.marks)
as_asked g c =
    let levels = c.deref_mut.ensures.len in
    let leans = c.deref_mut-2.ensures.len in
    let table = c.deref_mut-3.ensures.len in
    let marks = c.deref_mut-4.ensures.len in
    let count = length-take-le c.args.day.now.count c.args.day.now.slots.now c.args.day.now.stored in
    cc

pub returns : goal.returns
returns g c =
    let day = c.args.day.now in
    let answered = c.in_ok-cost.ensures in
    let count = ap length c.slots-count.ensures in
    let levels = c.truncate.ensures.items ∙ ap₂ take count (with_items_is c.args.levels c.plan.new.levels (c.plan.auto.levels ∙ c.deref_mut.ensures.len)) in
    let leans = c.truncate-2.ensures.items ∙ ap₂ take count (with_items_is c.args.leans c.plan.new.leans (c.plan.auto.leans ∙ c.deref_mut-2.ensures.len)) in
    let asked = as_asked g (goal.at.returns g c).After-plan in
    let made = plan_answered g.C.Curve.ground g.C.Curve.steps (plain day) g.met.C.Curve.rising day.proper (record { levels = vec_len c.args.levels; leans = vec_len c.args.leans; table = vec_len c.args.table; marks = vec_len c.args.marks }) _ c.in_ok-cost.cost _ _ _ _ _ _ asked answered.answer answered.levels answered.leans levels leans in
    let fits : SFits w64 c.in_ok-cost.cost = search rules in
    record { answer = rw (to_z-of_z w64 c.in_ok-cost.cost fits) made.0; leaning = made.1 }
