-- The plan of a day is the coldest, and it is the walk of the sweep.
use Rattle.std.proofs.Common.{◌≡◌, ℕ, List, ◌≤ℤ◌, Option, sym, subst}
use Rattle.std.specs.List.{AllByRecursion}
use Rattle.optimum.specs.Plans.{Terms, Within, price, Cheapest}
use Rattle.optimum.specs.Coldest.{NoWarmer, Coldest, plans, plan}
use Rattle.optimum.specs.Theorems.{Convex, Open, PlanIsColdest}
use Rattle.optimum.proofs.Search.{Alone, all_mem, first_of_one, first_of_least, first_of_alone}
use Rattle.optimum.proofs.Listing.{plans_within, plans_all, plans_order}
use Rattle.optimum.proofs.Sweep.{walk, first_message}
use Rattle.optimum.proofs.Start.{walk_is_coldest}

module _ (before : Option ℕ) (ts : List Terms) (xs : List ℕ) where
  -- where some plan is within the bounds, the plan of the day is cheapest
  plan_cheapest : Within ts xs → Cheapest before ts (plan before ts)
  unfolding plan
  plan_cheapest within =
      let least = first_of_least (price before ts) (plans ts) in
      record {
        within = first_of_one (price before ts) (Within ts) xs (plans ts) (plans_all ts xs within) (plans_within ts);
        least = λ ys in'. all_mem (λ zs. price before ts (plan before ts) ≤ℤ price before ts zs) (plans_all ts ys in') least;
      }

  -- a cheapest plan that is nowhere warmer is the plan of the day
  plan_first : Cheapest before ts xs → NoWarmer xs (plan before ts) → plan before ts ≡ xs
  unfolding plan
  plan_first cheapest =
      let alone = first_of_alone (price before ts) (plans ts) (plans_order ts) in
      let found = plan_cheapest cheapest.within in
      all_mem (Alone (price before ts) (plan before ts)) (plans_all ts xs cheapest.within) alone (cheapest.least (plan before ts) found.within)

  -- so the coldest plan is the plan of the day
  pub plan_found : Coldest before ts xs → plan before ts ≡ xs
  plan_found c = plan_first c.cheapest (c.coldest (plan before ts) (plan_cheapest c.cheapest.within))

-- the plan of the day is the walk of the sweep
pub plan_is_walk : (before : Option ℕ) (ts : List Terms) → AllByRecursion Convex ts → AllByRecursion Open ts → plan before ts ≡ walk (first_message before ts) ts
plan_is_walk before ts convex opens = plan_found before ts (walk (first_message before ts) ts) (walk_is_coldest before ts convex opens)

-- the plan of the day is the coldest
pub plan_is_coldest : PlanIsColdest
plan_is_coldest before ts convex opens =
    subst (Coldest before ts) (sym (plan_is_walk before ts convex opens)) (walk_is_coldest before ts convex opens)
