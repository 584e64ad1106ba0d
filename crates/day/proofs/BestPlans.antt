-- What a check accepts is cheapest, and what is planned is the coldest of the cheapest plans.
use Rattle.std.proofs.Common.{◌≡◌, ℕ, suc, ◌<◌, true, List, length, take, drop, ℤ, ◌≤ℤ◌, IfOk, Some, None, Ok, Option, Result, refl}
use Rattle.std.proofs.lemmas.List.{take_at}
use Rattle.curve.specs.Limits.{last_step}
use Rattle.optimum.specs.Coldest.{Coldest, plan}
use Rattle.optimum.specs.Plans.{Terms, Cheapest}
use Rattle.optimum.proofs.Plan.{plan_is_coldest}
use Rattle.planner.specs.Planning.{planned}
use Rattle.planner.proofs.Convexity.{all_convex, all_open, plan_each}
use Rattle.slots.specs.Judging.{check_refusal}
use Rattle.slots.specs.Refusals.{told}
use Rattle.slots.specs.SlotTerms.{day_terms}
use Rattle.slots.specs.Slots.{all_proper}
use Rattle.slots.specs.declared.refusal.Refusal.{Refusal}
use Rattle.slots.specs.declared.slot.Slot.{Slot}
use Rattle.slots.proofs.Acceptance.{cheapest_from_accepted}

-- where a call was answered, there was no refusal
answered_none : {X : Type 0} (refusal : Option Refusal) (x y : X) → Ok x ≡ told refusal y → refusal ≡ None
answered_none None x y e = refl
answered_none (Some refusal) x y e = cc

module _
    {C : Type 0} (ground : C → ℤ) (steps : C → ℕ → ℤ) (rising : (c : C) (v : ℕ) → v < last_step → steps c v ≤ℤ steps c (suc v))
    (slots : List (Slot C)) (good : all_proper slots ≡ true)
  where
    abbrev ts : List Terms
    ts = day_terms ground steps slots

    pub check_cheapest : (xs : List ℕ) (ls : List ℤ) (cost price : ℤ) → Ok cost ≡ told (check_refusal ts xs ls) price → Cheapest None ts xs
    check_cheapest xs ls cost price answered =
        cheapest_from_accepted ts xs ls (all_convex ground steps rising slots good) (answered_none (check_refusal ts xs ls) cost price answered)

    pub plan_coldest :
        (count : ℕ) (short : Option Refusal) (r : Result ℤ Refusal) (price : ℤ) (before after : List ℕ) → count ≡ length slots → r ≡ told short price → after ≡ planned short (plan None ts) before →
        IfOk r (λ _. Coldest None ts (take count after))
    plan_coldest count None r price before after many answered written =
        rw (answered, written, many, take_at (plan None ts) (drop (length (plan None ts)) before) (length slots) (plan_each ground steps rising slots good))
        (plan_is_coldest None ts (all_convex ground steps rising slots good) (all_open ground steps slots good))
    plan_coldest count (Some refusal) r price before after many answered written = rw answered tt
