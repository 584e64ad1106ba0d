-- The plan of a day's slots, as the parts of the program find it.
use Rattle.std.proofs.Common.{◌≡◌, ℕ, suc, ◌*◌, ◌<◌, ◌≤◌, true, List, length, ℤ, pos, neg_ℤ, ◌≤ℤ◌, None, arith}
use Rattle.std.proofs.ByRecursion.{All-weaker}
use Rattle.std.proofs.lemmas.List.{length-map}
use Rattle.std.proofs.lemmas.Bool.Decides.{nat_tests}
use Rattle.std.specs.List.{zip, AllByRecursion}
use Rattle.curve.specs.Limits.{last_step, step_limit}
use Rattle.optimum.specs.Coldest.{plan}
use Rattle.optimum.specs.Leans.{Obeys}
use Rattle.optimum.specs.Plans.{Within}
use Rattle.optimum.proofs.LeanPasses.{forward, backward}
use Rattle.optimum.proofs.LeanSizes.{Sized, sized_wider, forward_size}
use Rattle.optimum.proofs.Marks.{marks, walk_back}
use Rattle.optimum.proofs.Planned.{plan_within, plan_from_marks, plan_leans}
use Rattle.slots.specs.Judging.{earliest, inside, price_refusal}
use Rattle.slots.specs.Limits.{most_slots, toll_limit}
use Rattle.slots.specs.SlotTerms.{slot_terms, day_terms}
use Rattle.slots.specs.Slots.{all_proper}
use Rattle.slots.specs.declared.slot.Slot.{Slot}
use Rattle.slots.proofs.Earliest.{none_from_all}
use Rattle.slots.proofs.WithinBounds.{within_inside}
use Rattle.planner.proofs.Convexity.{all_open, all_convex, plan_each}
use Rattle.planner.proofs.SlotSizes.{all_sized}

-- what is known of the plan of some slots: it has a level within the bounds for each, its price is not refused, the walk back over what the sweep leaves finds it,
-- the leans of the first pass are small enough for the second, and the leans of both obey the rules with it
pub record PlanOf {C : Type 0} (ground : C → ℤ) (steps : C → ℕ → ℤ) (slots : List (Slot C)) : Type 0 where
  pub within : Within (day_terms ground steps slots) (plan None (day_terms ground steps slots))
  pub each : length (plan None (day_terms ground steps slots)) ≡ length slots
  pub accepted : price_refusal (day_terms ground steps slots) (plan None (day_terms ground steps slots)) ≡ None
  pub walked : walk_back (marks (λ _. pos 0) (day_terms ground steps slots)) ≡ plan None (day_terms ground steps slots)
  pub small : AllByRecursion (Sized (most_slots * toll_limit)) (forward (day_terms ground steps slots) (plan None (day_terms ground steps slots)))
  pub obeys :
      Obeys None (day_terms ground steps slots) (plan None (day_terms ground steps slots))
      (backward (day_terms ground steps slots) (plan None (day_terms ground steps slots)) (forward (day_terms ground steps slots) (plan None (day_terms ground steps slots))))

-- few and proper slots have such a plan, for curves that keep their law
pub plan_of :
    {C : Type 0} (ground : C → ℤ) (steps : C → ℕ → ℤ) →
    ((c : C) (v : ℕ) → v < last_step → steps c v ≤ℤ steps c (suc v)) →
    ((c : C) (v : ℕ) → v ≤ last_step → (neg_ℤ (pos step_limit) ≤ℤ steps c v) × (steps c v ≤ℤ pos step_limit)) →
    (slots : List (Slot C)) → length slots ≤ most_slots → all_proper slots ≡ true → PlanOf ground steps slots
plan_of ground steps rising bounded slots few good =
    let ts = day_terms ground steps slots in
    let convex = all_convex ground steps rising slots good in
    let opens = all_open ground steps slots good in
    let all = length-map slots (slot_terms ground steps) in
    let within = plan_within ts convex opens in
    let each = plan_each ground steps rising slots good in
    let none_outside : earliest inside (zip ts (plan None ts)) ≡ None = none_from_all inside (zip ts (plan None ts)) (within_inside ts (plan None ts) within) in
    let sizes = forward_size toll_limit ts (plan None ts) (all_sized ground steps bounded slots good) within in
    record {
      within = within;
      each = each;
      accepted = grind (arith, nat_tests);
      walked = plan_from_marks ts convex opens;
      small = All-weaker (Sized (length ts * toll_limit)) (Sized (most_slots * toll_limit)) (sized_wider (length ts * toll_limit) (most_slots * toll_limit) (omega arith)) (forward ts (plan None ts)) sizes;
      obeys = plan_leans ts convex opens;
    }
