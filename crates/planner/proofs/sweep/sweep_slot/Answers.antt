use Rattle.std.proofs.Common.{◌≡◌, ◌≤◌, pos, neg_ℤ, ap, ◌∙◌, arith}
use Rattle.std.proofs.lemmas.Int.{ints}
use Rattle.std.proofs.lemmas.Bool.Decides.{nat_tests}
use Rattle.curve.specs.Limits.{top}
use Rattle.optimum.specs.Plans.{Terms}
use Rattle.optimum.proofs.Sweep.{threshold}
use Rattle.slots.specs.SlotTerms.{slot_terms}
use Rattle.planner.proofs.SlotSweeps.{joined_at, threshold_found, slot_rising}
use Rattle.planner.proofs.sweep.sweep_slot.Goals as goal

pub first_from-first-requires-clause-rising : goal.first_from-first-requires-clause-rising
first_from-first-requires-clause-rising g c =
    slot_rising g.C.Curve.ground g.C.Curve.steps g.met.C.Curve.rising c.args.slot.now c.requires.proper c.args.table.now c.join.new.table c.join.ensures c.requires.rising

pub first_from-second-requires-clause-rising : goal.first_from-second-requires-clause-rising
first_from-second-requires-clause-rising g c =
    slot_rising g.C.Curve.ground g.C.Curve.steps g.met.C.Curve.rising c.args.slot.now c.requires.proper c.args.table.now c.join.new.table c.join.ensures c.requires.rising

pub returns : goal.returns
returns g c =
    let t : Terms = slot_terms g.C.Curve.ground g.C.Curve.steps c.args.slot.now in
    let before = c.args.table.now in
    let table = c.join.new.table in
    let order : t.low ≤ t.high = grind (arith, nat_tests) in
    let within : t.high ≤ top = grind (arith, nat_tests) in
    record {
      levels =
          λ message holds.
          let found = threshold_found t before table c.join.ensures order within message holds in
          let first : c.first_from-first.result ≡ threshold message t (neg_ℤ (pos c.args.down)) = c.first_from-first.ensures ∙ found _ ∙ ap (threshold message t) (omega (arith, ints)) in
          let second : c.first_from-second.result ≡ threshold message t (pos c.args.up) = c.first_from-second.ensures ∙ found _ ∙ ap (threshold message t) (omega (arith, ints)) in
          cc;
      after = λ message holds. joined_at t before table c.join.ensures order within message holds;
    }
