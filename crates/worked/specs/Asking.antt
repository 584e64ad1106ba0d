-- What can be asked about curves and days, and what is answered.
use Rattle.std.specs.Prelude.{ℕ, List, map, ℤ, Some, None, Option}
use Rattle.curve.specs.Faults.{fault_number}
use Rattle.curve.specs.Meaning.{cost}
use Rattle.curve.specs.Pairs.{pair_fault}
use Rattle.curve.specs.WrittenCurves.{written_ground, written_steps}
use Rattle.curve.specs.declared.written.Written.{Written}
use Rattle.optimum.specs.Coldest.{plan}
use Rattle.optimum.specs.Plans.{Terms, price}
use Rattle.slots.specs.Judging.{check_refusal}
use Rattle.slots.specs.Refusals.{refusal_number, refusal_slot}
use Rattle.slots.specs.SlotTerms.{day_terms}
use Rattle.slots.specs.declared.slot.Slot.{Slot}

-- the plan of a day; a check of levels with leans; what a curve costs at some levels; the pair of two curves
pub data Asked : Type 0 where
  the_plan : List (Slot Written) → Asked
  the_check : List (Slot Written) → List ℕ → List ℤ → Asked
  the_costs : Written → List ℕ → Asked
  the_pair : Written → Written → Asked

-- a plan with its cost; an accepted check with the cost; costs; a pair that can be made; a refusal, with the slot that it names
pub data Said : Type 0 where
  planned : List ℕ → ℤ → Said
  accepted : ℤ → Said
  costing : List ℤ → Said
  made : Said
  refused : ℕ → Option ℕ → Said

-- the terms of a day of written curves
abbrev pub terms : List (Slot Written) → List Terms
terms slots = day_terms written_ground written_steps slots

abbrev pub answer : Asked → Said
answer (the_plan slots) = planned (plan None (terms slots)) (price None (terms slots) (plan None (terms slots)))
answer (the_check slots xs ls) =
    elim (check_refusal (terms slots) xs ls) [
      | None ↦ accepted (price None (terms slots) xs)
      | Some refusal ↦ refused (refusal_number refusal) (refusal_slot refusal)
    ]
answer (the_costs c levels) = costing (map (cost (written_ground c) (written_steps c)) levels)
answer (the_pair c d) =
    elim (pair_fault (written_ground c) (written_steps c) (written_ground d) (written_steps d)) [
      | None ↦ made
      | Some fault ↦ refused (fault_number fault) None
    ]
