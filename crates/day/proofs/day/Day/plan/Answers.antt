use Rattle.std.proofs.Common.{take, sym}
use Rattle.std.proofs.lemmas.List.{length-take-le}
use Rattle.day.proofs.BestPlans.{plan_coldest}
use Rattle.day.proofs.day.Day.plan.Goals as goal

pub returns-clause-coldest : goal.returns-clause-coldest
returns-clause-coldest g c =
    let day = c.args.self.now in
    let made = rw c.listed.ensures at c.plan_slots.ensures in
    let many = sym (length-take-le day.count day.slots.now day.stored) in
    plan_coldest g.C.Curve.ground g.C.Curve.steps g.met.C.Curve.rising (take day.count day.slots.now) day.proper day.count _ _ _ _ _ many made.answer made.levels
