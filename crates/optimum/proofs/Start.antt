-- The walk from the message to the first slot is the coldest plan of the day.
use Rattle.std.proofs.Common.{◌≡◌, ℕ, List, ℤ, pos, ◌+ℤ◌, Some, None, Option, arith}
use Rattle.std.specs.List.{AllByRecursion}
use Rattle.std.proofs.lemmas.Int.{ints}
use Rattle.optimum.specs.Plans.{Terms, Within, price}
use Rattle.optimum.specs.Coldest.{Coldest}
use Rattle.optimum.specs.Theorems.{Convex, Open}
use Rattle.optimum.proofs.Totals.{total, line_flat}
use Rattle.optimum.proofs.Charges.{charge, charge_climb, growth_from_rises}
use Rattle.optimum.proofs.Tolls.{growth_rises}
use Rattle.optimum.proofs.Sweep.{next_up, next_down, first_level, first_message, walk}
use Rattle.optimum.proofs.Messages.{Monotone}
use Rattle.optimum.proofs.PriceUnder.{price_under, next_growth, price_from}
use Rattle.optimum.proofs.Walk.{walk_within, walk_least, walk_coldest}

-- the message to the first slot does not fall
first_monotone : (before : Option ℕ) (ts : List Terms) → Monotone (first_message before ts)
unfolding first_message
first_monotone None ts v = omega (arith, ints)
first_monotone (Some u) ts v = growth_from_rises (next_growth ts) u (growth_rises (next_up ts) (next_down ts)) v

-- the part of every price that is not in that message
abbrev offset : Option ℕ → List Terms → ℤ
offset before ts = charge (next_growth ts) before 0

-- the price of a plan is its cost under that message, up to that part
price_offset : (before : Option ℕ) (ts : List Terms) (xs : List ℕ) → Within ts xs →
    price before ts xs ≡ offset before ts +ℤ price_under (first_message before ts) ts xs
unfolding price_under first_message total
price_offset None ts xs within = omega (arith, ints, line_flat (first_level xs))
price_offset (Some u) ts xs within =
    omega (arith, ints, price_from u ts xs within, charge_climb (next_growth ts) u (first_level xs))

-- the walk from that message is the coldest plan
pub walk_is_coldest : (before : Option ℕ) (ts : List Terms) → AllByRecursion Convex ts → AllByRecursion Open ts → Coldest before ts (walk (first_message before ts) ts)
walk_is_coldest before ts convex opens =
    let message = first_message before ts in
    let monotone = first_monotone before ts in
    let within = walk_within message ts opens in
    let own = price_offset before ts (walk message ts) within in
    let dearer = λ (ys : List ℕ) (in' : Within ts ys). walk_least message ts monotone convex opens ys in' in
    record {
      cheapest = record { within = within; least = λ ys in'. omega (arith, ints, price_offset before ts ys in', dearer ys in') };
      coldest =
          λ ys cheapest.
          let other = price_offset before ts ys cheapest.within in
          walk_coldest message ts monotone convex opens ys cheapest.within (omega (arith, ints, cheapest.least (walk message ts) within));
    }

-- where no level comes before, it is the walk from no message
pub walk_from_none : (ts : List Terms) → AllByRecursion Convex ts → AllByRecursion Open ts → Coldest None ts (walk (λ _. pos 0) ts)
unfolding first_message
walk_from_none = walk_is_coldest None
