-- The earliest slot whose level is out of bounds, and what it means that there is none.
use Rattle.std.proofs.Common.{◌≡◌, ℕ, ◌+◌, true, false, ◌⊎◌, List, [], ◌∷◌, ℤ, Some, None, Option, refl, inl, inr}
use Rattle.std.specs.List.{zip}
use Rattle.slots.specs.Judging.{earliest, inside}
use Rattle.slots.specs.SlotTerms.{slot_terms, day_terms}
use Rattle.slots.specs.declared.slot.Slot.{Slot}
use Rattle.slots.proofs.Earliest.{after, earliest_more, earliest_here, earliest_end, none_from_all, all_from_none}

module _ {C : Type 0} (ground : C → ℤ) (steps : C → ℕ → ℤ) where
  -- the earliest slot whose level is out of bounds
  abbrev pub outside : List (Slot C) → List ℕ → Option ℕ
  outside slots levels = earliest inside (zip (day_terms ground steps slots) levels)

  -- a slot and its level within the bounds are passed by
  pub outside_more :
      (n m : ℕ) (s : Slot C) (ss : List (Slot C)) (x : ℕ) (xs : List ℕ) {slots : List (Slot C)} {levels : List ℕ} → slots ≡ s ∷ ss → levels ≡ x ∷ xs →
      inside (slot_terms ground steps s, x) ≡ true → m ≡ n + 1 → after n (outside slots levels) ≡ after m (outside ss xs)
  outside_more n m s ss x xs p q within next = rw (p, q, next) (earliest_more inside _ _ _ n refl within)

  -- a level out of bounds is found at its slot
  pub outside_here :
      (n m : ℕ) (s : Slot C) (ss : List (Slot C)) (x : ℕ) (xs : List ℕ) {slots : List (Slot C)} {levels : List ℕ} → slots ≡ s ∷ ss → levels ≡ x ∷ xs →
      inside (slot_terms ground steps s, x) ≡ false → m ≡ n → after n (outside slots levels) ≡ Some m
  outside_here n m s ss x xs p q out here = rw (p, q, here) (earliest_here inside _ _ _ n refl out)

  -- at the end none is found
  pub outside_end : (n : ℕ) (slots : List (Slot C)) (levels : List ℕ) → (slots ≡ []) ⊎ (levels ≡ []) → after n (outside slots levels) ≡ None
  outside_end n slots levels (inl e) = rw e (earliest_end inside _ n refl)
  outside_end n [] levels (inr e) = earliest_end inside _ n refl
  outside_end n (s ∷ ss) levels (inr e) = rw e (earliest_end inside _ n refl)

  -- where none is found, the first level is within its bounds
  pub outside_head :
      (s : Slot C) (ss : List (Slot C)) (x : ℕ) (xs : List ℕ) {slots : List (Slot C)} {levels : List ℕ} → slots ≡ s ∷ ss → levels ≡ x ∷ xs →
      outside slots levels ≡ None → inside (slot_terms ground steps s, x) ≡ true
  outside_head s ss x xs p q none = (all_from_none inside _ (rw (p, q) at none)).0

  -- and none is found among the others
  pub outside_tail :
      (s : Slot C) (ss : List (Slot C)) (x : ℕ) (xs : List ℕ) {slots : List (Slot C)} {levels : List ℕ} → slots ≡ s ∷ ss → levels ≡ x ∷ xs →
      outside slots levels ≡ None → outside ss xs ≡ None
  outside_tail s ss x xs p q none = none_from_all inside _ (all_from_none inside _ (rw (p, q) at none)).1
