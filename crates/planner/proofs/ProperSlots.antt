-- Slots that keep the rules for bounds and tolls: those behind, the one at a place, and the tolls of the first.
use Rattle.std.proofs.Common.{◌≡◌, ℕ, zero, suc, ◌+◌, ◌<◌, ◌≤◌, true, List, [], ◌∷◌, length, get_or, drop, ℤ, pos, sym, refl, ap, ◌∙◌, le_of_suc-le-suc, arith}
use Rattle.std.proofs.lemmas.List.{drop_more}
use Rattle.std.proofs.lemmas.Bool.Decides.{nat_tests}
use Rattle.curve.specs.Tests.{and_left, and_right}
use Rattle.curve.specs.Limits.{last_step}
use Rattle.optimum.proofs.Marks.{Holds}
use Rattle.optimum.proofs.Sweep.{next_up, next_down}
use Rattle.slots.specs.Limits.{toll_limit}
use Rattle.slots.specs.SlotTerms.{day_terms}
use Rattle.slots.specs.Slots.{proper, all_proper}
use Rattle.slots.specs.declared.slot.Slot.{Slot}

module _ {C : Type 0} where
  -- the last of proper slots are proper
  pub proper_drop : (n : ℕ) (xs : List (Slot C)) → all_proper xs ≡ true → all_proper (drop n xs) ≡ true
  proper_drop zero xs h = h
  proper_drop (suc n) [] h = refl
  proper_drop (suc n) (x ∷ xs) h = proper_drop n xs (and_right (proper x) (all_proper xs) h)

  -- and so is the one at a place
  pub proper_at : (xs : List (Slot C)) (i : ℕ) (d : Slot C) → i < length xs → all_proper xs ≡ true → proper (get_or xs i d) ≡ true
  proper_at [] i d within h = absurd (omega arith)
  proper_at (x ∷ xs) zero d within h = and_left (proper x) (all_proper xs) h
  proper_at (x ∷ xs) (suc i) d within h = proper_at xs i d (le_of_suc-le-suc within) (and_right (proper x) (all_proper xs) h)

  -- the tolls of the first are not above the largest
  pub proper_tolls : (ground : C → ℤ) (steps : C → ℕ → ℤ) (xs : List (Slot C)) → all_proper xs ≡ true → (next_up (day_terms ground steps xs) ≤ toll_limit) × (next_down (day_terms ground steps xs) ≤ toll_limit)
  unfolding next_up next_down
  proper_tolls ground steps [] h = (omega arith, omega arith)
  proper_tolls ground steps (x ∷ xs) h = let first = and_left (proper x) (all_proper xs) h in (grind (arith, nat_tests), grind (arith, nat_tests))

  -- a table of zeros holds the message to the first of them
  pub holds_zero :
      (ground : C → ℤ) (steps : C → ℕ → ℤ) (xs : List (Slot C)) (table : List ℤ) → all_proper xs ≡ true → ((v : ℕ) → v ≤ last_step → get_or table v (pos 0) ≡ pos 0) →
      Holds (day_terms ground steps xs) table (λ _. pos 0)
  holds_zero ground steps [] table h zeros = tt
  holds_zero ground steps (x ∷ xs) table h zeros = let first = and_left (proper x) (all_proper xs) h in λ v from below. zeros v (grind (arith, nat_tests))

-- what is left of a list begins with the element that is read
pub drop_read : {X : Type 0} (xs : List X) (i : ℕ) (x : X) → i < length xs → x ≡ get_or xs i x → drop i xs ≡ x ∷ drop (i + 1) xs
drop_read {X} xs i x within is = drop_more xs i x within ∙ ap (λ (y : X). y ∷ drop (i + 1) xs) (sym is)
