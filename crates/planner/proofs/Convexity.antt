-- The terms of a day's slots are such as the theorems on leans and plans ask for.
use Rattle.std.proofs.Common.{◌≡◌, ℕ, suc, ◌<◌, true, List, length, ℤ, ◌≤ℤ◌, None, refl, ◌∙◌, arith}
use Rattle.std.proofs.lemmas.List.{length-map}
use Rattle.std.specs.List.{AllByRecursion}
use Rattle.std.proofs.ByRecursion.{All-map, All-weaker, Decides-by_and}
use Rattle.std.proofs.lemmas.Bool.Decides.{nat_tests}
use Rattle.curve.specs.Limits.{last_step}
use Rattle.optimum.specs.Coldest.{plan}
use Rattle.optimum.proofs.Planned.{plan_length}
use Rattle.optimum.specs.Theorems.{Convex, Open}
use Rattle.slots.specs.SlotTerms.{slot_terms, day_terms}
use Rattle.slots.specs.Slots.{proper, all_proper}
use Rattle.slots.specs.declared.slot.Slot.{Slot}

module _ {C : Type 0} (ground : C → ℤ) (steps : C → ℕ → ℤ) where
  -- a proper slot leaves a level open
  pub slot_open : (s : Slot C) → proper s ≡ true → Open (slot_terms ground steps s)
  slot_open s good = grind (arith, nat_tests)

  -- where steps never fall, its terms are convex
  pub slot_convex : ((c : C) (v : ℕ) → v < last_step → steps c v ≤ℤ steps c (suc v)) → (s : Slot C) → proper s ≡ true → Convex (slot_terms ground steps s)
  slot_convex rising s good v below = rising s.curve v (grind (arith, nat_tests))

  -- what follows from the rules for bounds and tolls holds of the terms of each slot
  all_terms :
      (P : _ → Type 0) → ((s : Slot C) → proper s ≡ true → P (slot_terms ground steps s)) →
      (slots : List (Slot C)) → all_proper slots ≡ true → AllByRecursion P (day_terms ground steps slots)
  all_terms P each slots good =
      let keeps = (Decides-by_and proper (λ s. proper s ≡ true) all_proper (λ s. (λ e. e, λ e. e)) refl (λ _ _. refl) slots).0 good in
      All-map P (slot_terms ground steps) slots (All-weaker (λ s. proper s ≡ true) (λ s. P (slot_terms ground steps s)) each slots keeps)

  -- so proper slots leave a level open
  pub all_open : (slots : List (Slot C)) → all_proper slots ≡ true → AllByRecursion Open (day_terms ground steps slots)
  all_open = all_terms Open slot_open

  -- and where steps never fall, their terms are convex
  pub all_convex :
      ((c : C) (v : ℕ) → v < last_step → steps c v ≤ℤ steps c (suc v)) →
      (slots : List (Slot C)) → all_proper slots ≡ true → AllByRecursion Convex (day_terms ground steps slots)
  all_convex rising = all_terms Convex (slot_convex rising)

  -- so that their plan has one level for each slot
  pub plan_each :
      ((c : C) (v : ℕ) → v < last_step → steps c v ≤ℤ steps c (suc v)) →
      (slots : List (Slot C)) → all_proper slots ≡ true → length (plan None (day_terms ground steps slots)) ≡ length slots
  plan_each rising slots good = plan_length (day_terms ground steps slots) (all_convex rising slots good) (all_open slots good) ∙ length-map slots (slot_terms ground steps)
