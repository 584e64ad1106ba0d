-- What the sweep, the walk back and the passes over leans give together: the plan of the day, with leans that obey the rules.
use Rattle.std.proofs.Common.{◌≡◌, ℕ, List, length, pos, None, sym, ◌∙◌, subst}
use Rattle.std.specs.List.{AllByRecursion}
use Rattle.optimum.specs.Coldest.{plan}
use Rattle.optimum.specs.Leans.{Obeys}
use Rattle.optimum.specs.Plans.{Terms, Within}
use Rattle.optimum.specs.Theorems.{Convex, Open}
use Rattle.optimum.proofs.LeanPasses.{forward, backward}
use Rattle.optimum.proofs.LeansObey.{leans_obey}
use Rattle.optimum.proofs.Lengths.{within_length}
use Rattle.optimum.proofs.Marks.{marks, walk_back, walk_back_marks}
use Rattle.optimum.proofs.Plan.{plan_found, plan_is_coldest}
use Rattle.optimum.proofs.Start.{walk_from_none}
use Rattle.optimum.proofs.Sweep.{walk}

module _ (ts : List Terms) (convex : AllByRecursion Convex ts) (opens : AllByRecursion Open ts) where
  -- the plan is what the walk finds
  pub plan_walk : plan None ts ≡ walk (λ _. pos 0) ts
  plan_walk = plan_found None ts (walk (λ _. pos 0) ts) (walk_from_none ts convex opens)

  pub plan_within : Within ts (plan None ts)
  plan_within = (plan_is_coldest None ts convex opens).cheapest.within

  pub plan_length : length (plan None ts) ≡ length ts
  plan_length = within_length ts (plan None ts) plan_within

  -- the walk back over the thresholds finds the plan
  pub plan_from_marks : walk_back (marks (λ _. pos 0) ts) ≡ plan None ts
  plan_from_marks = walk_back_marks (λ _. pos 0) ts ∙ sym plan_walk

  -- the two passes find leans that obey the rules with the plan
  pub plan_leans : Obeys None ts (plan None ts) (backward ts (plan None ts) (forward ts (plan None ts)))
  plan_leans = subst (λ (xs : List ℕ). Obeys None ts xs (backward ts xs (forward ts xs))) (sym plan_walk) (leans_obey ts convex opens)
