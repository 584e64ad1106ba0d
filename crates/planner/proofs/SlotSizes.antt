-- How large the terms of proper slots are, for curves that keep their law.
use Rattle.std.proofs.Common.{◌≡◌, ℕ, ◌<◌, ◌≤◌, min, true, List, [], ◌∷◌, ℤ, pos, neg_ℤ, ◌≤ℤ◌, arith}
use Rattle.std.specs.List.{AllByRecursion}
use Rattle.std.proofs.lemmas.Bool.Decides.{nat_tests}
use Rattle.curve.specs.Limits.{top, last_step, step_limit}
use Rattle.curve.specs.Tests.{and_left, and_right}
use Rattle.optimum.proofs.LeanSizes.{Sized, SizedTerms}
use Rattle.slots.specs.Limits.{toll_limit}
use Rattle.slots.specs.SlotTerms.{slot_terms, day_terms}
use Rattle.slots.specs.Slots.{proper, all_proper}
use Rattle.slots.specs.declared.slot.Slot.{Slot}

module _ {C : Type 0} (ground : C → ℤ) (steps : C → ℕ → ℤ)
    (bounded : (c : C) (v : ℕ) → v ≤ last_step → (neg_ℤ (pos step_limit) ≤ℤ steps c v) × (steps c v ≤ℤ pos step_limit)) where
  -- the tolls of a proper slot are at most the largest toll, and so are the sizes of its steps
  pub proper_sized : (s : Slot C) → proper s ≡ true → SizedTerms toll_limit (slot_terms ground steps s)
  proper_sized s h =
      let high : s.high ≤ top = grind (arith, nat_tests) in
      record {
        ups = grind (arith, nat_tests);
        downs = grind (arith, nat_tests);
        steps = λ v below. let step = bounded s.curve v (omega arith) in record { least = step.0; most = step.1 };
      }

  -- what the curve of a proper slot answers for a level below its high level: the step of that level, no larger than the largest toll
  pub step_read :
      (s : Slot C) (v : ℕ) (r : ℤ) → proper s ≡ true → v < s.high → r ≡ steps s.curve (min v last_step) →
      (r ≡ steps s.curve v) × Sized toll_limit (steps s.curve v)
  step_read s v r h below read =
      let high : s.high ≤ top = grind (arith, nat_tests) in
      let own : min v last_step ≡ v = omega arith in
      (rw own at read, (proper_sized s h).steps v below)

  -- the terms of a day of proper slots are so sized
  pub all_sized : (slots : List (Slot C)) → all_proper slots ≡ true → AllByRecursion (SizedTerms toll_limit) (day_terms ground steps slots)
  all_sized [] h = tt
  all_sized (s ∷ slots) h = (proper_sized s (and_left (proper s) (all_proper slots) h), all_sized slots (and_right (proper s) (all_proper slots) h))
