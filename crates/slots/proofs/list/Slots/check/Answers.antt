use Rattle.std.proofs.Common.{◌≡◌, None, sym, ap, ◌∙◌, arith, rules}
use Rattle.std.specs.List.{zip}
use Rattle.std.proofs.lemmas.List.{length-map}
use Rattle.std.proofs.lemmas.Bool.Decides.{nat_tests}
use Rattle.optimum.specs.Leans.{bounded, follows_move, at_rest}
use Rattle.slots.specs.Judging.{earliest, inside}
use Rattle.slots.specs.SlotTerms.{day_terms}
use Rattle.slots.specs.Stands.{small}
use Rattle.slots.proofs.Earliest.{all_from_none}
use Rattle.slots.proofs.Stands.{all_given, stands_small}
use Rattle.slots.proofs.list.Slots.check.Goals as goal

pub first_break-requires-3-clause-callable : goal.first_break-requires-3-clause-callable
first_break-requires-3-clause-callable g c =
    let ts = day_terms g.C.Curve.ground g.C.Curve.steps c.args.self.now.list.now in
    let within : earliest inside (zip ts c.args.levels.now) ≡ None = grind (arith, nat_tests, length-map, c.in_ok-admits.ensures) in
    let first = c.first_break.ensures bounded (λ s answer says. search (rules, says)) in
    let smalls = stands_small g.C.Curve.ground g.C.Curve.steps None c.args.self.now.list.now c.args.levels.now c.args.leans.now (grind (arith, nat_tests, length-map, c.in_ok-admits.ensures)) (omega arith) c.args.self.now.proper (all_from_none _ _ within) (all_from_none _ _ (sym first ∙ c.in_default.is)) in
    all_given _ _ (λ p held s is. let here = ap small is ∙ held in search (rules, here)) _ smalls

pub returns-in-Some-first_break-2 : goal.returns-in-Some-first_break-2
returns-in-Some-first_break-2 g c =
    let first = c.first_break.ensures bounded (λ s answer says. search (rules, says)) in
    let second = c.first_break-2.ensures follows_move (λ s answer says. search (rules, says)) in
    let third = c.first_break-3.ensures at_rest (λ s answer says. search (rules, says)) in
    grind (arith, nat_tests, length-map, c.in_ok-admits.ensures, first, second, third)

pub returns : goal.returns
returns g c =
    let first = c.first_break.ensures bounded (λ s answer says. search (rules, says)) in
    let second = c.first_break-2.ensures follows_move (λ s answer says. search (rules, says)) in
    let third = c.first_break-3.ensures at_rest (λ s answer says. search (rules, says)) in
    grind (arith, nat_tests, length-map, c.in_ok-admits.ensures, first, second, third)
