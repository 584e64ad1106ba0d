use Rattle.std.proofs.Common.{◌≡◌, true, take, arith}
use Rattle.std.proofs.lemmas.List.{take_more_set}
use Rattle.slots.specs.Slots.{proper}
use Rattle.day.proofs.Fronts.{proper_push}
use Rattle.day.proofs.day.Day.add.Goals as goal

pub invariant_of-self-clause-proper : goal.invariant_of-self-clause-proper
invariant_of-self-clause-proper g c =
    let d = c.args.self.now in
    let fits : proper c.args.slot ≡ true = grind (arith, c.in_ok-fits.ensures) in
    rw (take_more_set d.slots.now d.count c.args.slot (omega arith)) (proper_push (take d.count d.slots.now) c.args.slot d.proper fits)
