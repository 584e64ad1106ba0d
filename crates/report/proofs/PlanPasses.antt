-- The plan of a day passes the check with the leans beside it.
use Rattle.std.proofs.Common.{◌≡◌, ℕ, suc, ◌<◌, true, List, length, take, drop, ℤ, ◌≤ℤ◌, Some, None, Ok, Err, Option, Result, refl, subst, arith}
use Rattle.std.proofs.lemmas.List.{take_at, length-map}
use Rattle.curve.specs.Answers.{Answers}
use Rattle.curve.specs.Limits.{last_step}
use Rattle.optimum.specs.Coldest.{plan}
use Rattle.optimum.specs.Plans.{Terms}
use Rattle.optimum.proofs.Planned.{plan_within}
use Rattle.planner.specs.Planning.{planned, Leaned}
use Rattle.planner.proofs.Convexity.{all_convex, all_open, plan_each}
use Rattle.slots.specs.Judging.{check_refusal}
use Rattle.slots.specs.Refusals.{told}
use Rattle.slots.specs.SlotTerms.{slot_terms, day_terms}
use Rattle.slots.specs.Slots.{all_proper}
use Rattle.slots.specs.declared.refusal.Refusal.{Refusal}
use Rattle.slots.specs.declared.slot.Slot.{Slot}
use Rattle.slots.proofs.Acceptance.{accepted_from_obeys}

-- where a call was answered, there was no refusal
pub answered_none : {X : Type 0} (refusal : Option Refusal) (x y : X) → Ok x ≡ told refusal y → refusal ≡ None
answered_none None x y e = refl
answered_none (Some refusal) x y e = let z : ◌≡◌ {A = ℕ} 0 1 = cc in absurd (omega arith)

-- what holds of an answer, where neither of two calls is refused
pub answers_both :
    {X : Type 0} (r : Result X Refusal) (inner outer : Option Refusal) (P Q : X → Type 0) → outer ≡ None → inner ≡ None → ((x : X) → P x → Q x) → Answers r inner P → Answers r outer Q
answers_both (Ok x) inner outer P Q passed none then held = (passed, then x held.1)
answers_both (Err e) inner outer P Q passed none then held = let z : ◌≡◌ {A = ℕ} 0 1 = cc in absurd (omega arith)

module _
    {C : Type 0} (ground : C → ℤ) (steps : C → ℕ → ℤ) (rising : (c : C) (v : ℕ) → v < last_step → steps c v ≤ℤ steps c (suc v))
    (slots : List (Slot C)) (good : all_proper slots ≡ true)
  where
    abbrev ts : List Terms
    ts = day_terms ground steps slots

    -- the first levels in the buffer are those of the plan
    pub planned_front : (short : Option Refusal) (before after : List ℕ) → short ≡ None → after ≡ planned short (plan None ts) before → take (length slots) after ≡ plan None ts
    planned_front short before after none written = rw (written, none) (take_at (plan None ts) (drop (length (plan None ts)) before) (length slots) (plan_each ground steps rising slots good))

    -- and the first leans pass the check with them
    pub planned_accepted : (short : Option Refusal) (before after : List ℤ) → short ≡ None → Leaned short ts before after → check_refusal ts (plan None ts) (take (length slots) after) ≡ None
    planned_accepted short before after none leaned =
        let kept = subst (λ (r : Option Refusal). Leaned r ts before after) none leaned in
        accepted_from_obeys
        ts
        (plan None ts)
        (take (length slots) after)
        (plan_within ts (all_convex ground steps rising slots good) (all_open ground steps slots good))
        (rw (length-map slots (slot_terms ground steps)) at kept.0)
