use Rattle.std.proofs.Common.{take}
use Rattle.day.proofs.BestPlans.{check_cheapest}
use Rattle.day.proofs.day.Day.check.Goals as goal

pub returns-clause-cheapest : goal.returns-clause-cheapest
returns-clause-cheapest g c =
    let day = c.args.self.now in
    let answered = rw c.listed.ensures at c.in_ok-cost.ensures in
    check_cheapest g.C.Curve.ground g.C.Curve.steps g.met.C.Curve.rising (take day.count day.slots.now) day.proper c.args.levels.now c.args.leans.now _ _ answered
