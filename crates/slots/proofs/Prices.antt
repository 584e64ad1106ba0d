-- What a plan costs, slot by slot.
use Rattle.std.proofs.Common.{◌≡◌, ℕ, ◌*◌, ◌^◌, ◌⊎◌, List, [], ◌∷◌, ℤ, pos, ◌+ℤ◌, ◌≤ℤ◌, Some, Option, refl, inl, inr}
use Rattle.curve.specs.Meaning.{cost}
use Rattle.optimum.specs.Plans.{toll, price}
use Rattle.slots.specs.Limits.{most_slots}
use Rattle.slots.specs.SlotTerms.{slot_terms, day_terms}
use Rattle.slots.specs.declared.slot.Slot.{Slot}

-- the total so far leaves room for the prices of n slots more, each of size 2 ^ 49 at most
abbrev pub Room : ℤ → ℕ → Type 0
Room total n = ((total +ℤ pos (n * 2 ^ 49)) ≤ℤ pos (most_slots * 2 ^ 49)) × (pos (n * 2 ^ 49) ≤ℤ (total +ℤ pos (most_slots * 2 ^ 49)))

module _ {C : Type 0} (ground : C → ℤ) (steps : C → ℕ → ℤ) where
  -- what a slot adds to the price: the cost at its level, and the toll for coming there
  abbrev pub slot_price : Slot C → Option ℕ → ℕ → ℤ
  slot_price s before x = cost (ground s.curve) (steps s.curve) x +ℤ toll (slot_terms ground steps s) before x

  -- the price of a slot and those that follow
  pub price_more :
      (before : Option ℕ) (s : Slot C) (ss : List (Slot C)) (x : ℕ) (xs : List ℕ) {slots : List (Slot C)} {levels : List ℕ} → slots ≡ s ∷ ss → levels ≡ x ∷ xs →
      price before (day_terms ground steps slots) levels ≡ slot_price s before x +ℤ price (Some x) (day_terms ground steps ss) xs
  unfolding price
  price_more before s ss x xs p q = rw (p, q)

  -- at the end nothing is added
  pub price_end : (before : Option ℕ) (slots : List (Slot C)) (levels : List ℕ) → (slots ≡ []) ⊎ (levels ≡ []) → price before (day_terms ground steps slots) levels ≡ pos 0
  unfolding price
  price_end before slots levels (inl e) = rw e
  price_end before [] levels (inr e) = refl
  price_end before (s ∷ ss) levels (inr e) = rw e
