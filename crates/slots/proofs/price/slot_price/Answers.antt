use Rattle.std.proofs.Common.{◌≡◌, ◌^◌, pos, neg_ℤ, ◌≤ℤ◌, arith}
use Rattle.std.proofs.lemmas.Int.{ints}
use Rattle.std.proofs.lemmas.Bool.Decides.{nat_tests}
use Rattle.curve.specs.Meaning.{cost}
use Rattle.curve.specs.Costs.{cost_bounded}
use Rattle.slots.proofs.price.slot_price.Given as given
use Rattle.slots.proofs.price.slot_price.Goals as goal

-- the cost at the level is answered, and it is small
answered :
    (g : given.Over) (c : goal.After-toll_into g) →
    (c.unwrap_or.result ≡ cost (g.C.Curve.ground c.args.slot.now.curve) (g.C.Curve.steps c.args.slot.now.curve) c.args.level)
    × (neg_ℤ (pos (2 ^ 48)) ≤ℤ c.unwrap_or.result)
    × (c.unwrap_or.result ≤ℤ pos (2 ^ 48))
answered g c =
    let curve = c.args.slot.now.curve in
    let value : c.unwrap_or.result ≡ cost (g.C.Curve.ground curve) (g.C.Curve.steps curve) c.args.level = grind (arith, nat_tests) in
    let size = cost_bounded (g.C.Curve.ground curve) (g.C.Curve.steps curve) (g.met.C.Curve.grounded curve) (g.met.C.Curve.bounded curve) c.args.level (omega arith) in
    (value, omega (arith, ints), omega (arith, ints))

pub overflow_add-result : goal.overflow_add-result
overflow_add-result g c = let cost = answered g c in omega (arith, ints)

pub returns : goal.returns
returns g c =
    let cost = answered g c in
    let fits = overflow_add-result g c in
    record { value = omega (arith, ints); size = (omega (arith, ints), omega (arith, ints)) }
