use Rattle.std.proofs.Common.{◌≡◌, true, take, arith, length-set}
use Rattle.std.proofs.lemmas.List.{length-take-le}
use Rattle.std.proofs.lemmas.Bool.Decides.{nat_tests}
use Rattle.slots.specs.Slots.{proper}
use Rattle.day.proofs.Fronts.{proper_set, take_set}
use Rattle.day.proofs.day.Day.replace.Goals as goal

pub invariant_of-self-clause-proper : goal.invariant_of-self-clause-proper
invariant_of-self-clause-proper g c =
    let d = c.args.self.now in
    let fits : proper c.args.slot ≡ true = grind (arith, c.in_ok-fits.ensures) in
    rw (take_set d.count c.args.place d.slots.now c.args.slot) (proper_set (take d.count d.slots.now) c.args.place c.args.slot d.proper fits)

pub returns-clause-day : goal.returns-clause-day
returns-clause-day g c =
    let d = c.args.self.now in
    let front = take_set d.count c.args.place d.slots.now c.args.slot in
    let fits : proper c.args.slot ≡ true = grind (arith, c.in_ok-fits.ensures) in
    let many = length-take-le d.count d.slots.now d.stored in
    let room = length-set d.slots.now c.args.place c.args.slot in
    grind (arith, nat_tests)
