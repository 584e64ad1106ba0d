-- What is answered to a plan: the places of the day's slots in the buffers of levels and leans.
use Rattle.std.proofs.Common.{◌≡◌, ℕ, suc, ◌<◌, true, List, length, take, drop, ℤ, ◌≤ℤ◌, Some, None, Ok, Option, sym, refl, ap, ◌∙◌, subst}
use Rattle.std.proofs.lemmas.List.{take_at, length-map}
use Rattle.curve.specs.Limits.{last_step}
use Rattle.optimum.specs.Coldest.{plan}
use Rattle.optimum.specs.Leans.{Obeys}
use Rattle.optimum.specs.Plans.{Terms, price}
use Rattle.slots.specs.SlotTerms.{slot_terms}
use Rattle.day.specs.PlainDay.{PlainDay}
use Rattle.replay.specs.PlainRun as run
use Rattle.replay.specs.PlainRun.{terms, plan_told, unless_refused}
use Rattle.planner.specs.Planning.{plan_refusal, planned, Leaned}
use Rattle.slots.specs.Refusals.{told}
use Rattle.slots.specs.Slots.{all_proper}
use Rattle.replay.specs.declared.call.Buffers.{Buffers}
use Rattle.slots.specs.declared.refusal.Refusal.{Refusal}
use Rattle.planner.proofs.Convexity.{plan_each}

-- where a call was answered, there was no refusal
accepted : {X : Type 0} (refusal : Option Refusal) (x y : X) → Ok x ≡ told refusal y → (refusal ≡ None) × (x ≡ y)
accepted None x y e = (refl, cc)
accepted (Some refusal) x y e = absurd cc

module _ {C : Type 0} (ground : C → ℤ) (steps : C → ℕ → ℤ) (d : PlainDay C) where
  -- the terms of the day, its plan and how many slots it has
  abbrev ts : List Terms
  ts = terms ground steps d

  abbrev best : List ℕ
  best = plan None ts

  abbrev count : ℕ
  count = length d.slots

  -- the refusal of a plan in buffers of given lengths
  abbrev refusal_in : Buffers → Option Refusal
  refusal_in buffers = plan_refusal count buffers.levels buffers.leans buffers.table buffers.marks

  -- what the plain day tells by that refusal
  telling : (buffers : Buffers) (refusal : Option Refusal) → refusal_in buffers ≡ refusal → plan_told ground steps d buffers ≡ unless_refused refusal (run.planned (price None ts best) best)
  telling buffers refusal = ap (λ (r : Option Refusal). unless_refused r (run.planned (price None ts best) best))

  module _ (rising : (c : C) (v : ℕ) → v < last_step → steps c v ≤ℤ steps c (suc v)) (proper : all_proper d.slots ≡ true) where
    -- the first levels in the buffer are those of the plan
    levels_planned : (before : List ℕ) → take count (planned None best before) ≡ best
    levels_planned before = take_at best (drop (length best) before) count (plan_each ground steps rising d.slots proper)

    -- the first leans in the buffer obey the rules with the plan
    leans_obey : (before after : List ℤ) → Leaned None ts before after → Obeys None ts best (take count after)
    leans_obey before after leaned = rw (length-map d.slots (slot_terms ground steps)) at leaned.0

    -- a plan that was answered is told as the plain day tells it, and the leans beside it obey the rules
    pub plan_answered :
        (buffers : Buffers) (refusal : Option Refusal) (cost : ℤ) (levels_before levels_after levels : List ℕ) (leans_before leans_after leans : List ℤ) →
        refusal ≡ refusal_in buffers → Ok cost ≡ told refusal (price None ts best) → levels_after ≡ planned refusal best levels_before → Leaned refusal ts leans_before leans_after →
        levels ≡ take count levels_after → leans ≡ take count leans_after →
        (run.planned cost levels ≡ plan_told ground steps d buffers) × Obeys None ts levels leans
    plan_answered buffers refusal cost levels_before levels_after levels leans_before leans_after leans same priced written leaned first_levels first_leans =
        let sure = accepted refusal cost (price None ts best) priced in
        let found = levels_planned levels_before in
        let first : levels ≡ best = cc in
        let tells = telling buffers None (sym same ∙ sure.0) in
        let obey = leans_obey leans_before leans_after (subst (λ (r : Option Refusal). Leaned r ts leans_before leans_after) sure.0 leaned) in
        (cc, rw (first, first_leans) obey)
