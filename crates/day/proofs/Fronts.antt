-- The first slots of a memory: those of a day, after each edit.
use Rattle.std.proofs.Common.{◌≡◌, ℕ, zero, suc, ◌≤◌, true, List, [], ◌∷◌, ◌++◌, take, set, refl, ap, take-take}
use Rattle.curve.specs.Tests.{and_left, and_right, both}
use Rattle.slots.specs.Slots.{proper, all_proper}
use Rattle.slots.specs.declared.slot.Slot.{Slot}

module _ {C : Type 0} where
  -- the first of proper slots are proper
  pub proper_take : (n : ℕ) (xs : List (Slot C)) → all_proper xs ≡ true → all_proper (take n xs) ≡ true
  proper_take zero xs h = refl
  proper_take (suc n) [] h = refl
  proper_take (suc n) (x ∷ xs) h = both (and_left (proper x) (all_proper xs) h) (proper_take n xs (and_right (proper x) (all_proper xs) h))

  -- and so are fewer of the first
  pub proper_fewer : (m n : ℕ) (xs : List (Slot C)) → m ≤ n → all_proper (take n xs) ≡ true → all_proper (take m xs) ≡ true
  proper_fewer m n xs le h = rw (take-take m n xs le) at (proper_take m (take n xs) h)

  -- one more proper slot at the end
  pub proper_push : (xs : List (Slot C)) (x : Slot C) → all_proper xs ≡ true → proper x ≡ true → all_proper (xs ++ x ∷ []) ≡ true
  proper_push [] x h p = both p refl
  proper_push (y ∷ ys) x h p = both (and_left (proper y) (all_proper ys) h) (proper_push ys x (and_right (proper y) (all_proper ys) h) p)

  -- a proper slot in the place of another
  pub proper_set : (xs : List (Slot C)) (i : ℕ) (x : Slot C) → all_proper xs ≡ true → proper x ≡ true → all_proper (set xs i x) ≡ true
  proper_set [] i x h p = refl
  proper_set (y ∷ ys) zero x h p = both p (and_right (proper y) (all_proper ys) h)
  proper_set (y ∷ ys) (suc i) x h p = both (and_left (proper y) (all_proper ys) h) (proper_set ys i x (and_right (proper y) (all_proper ys) h) p)

  -- a write among the first slots is a write of the first slots
  pub take_set : (n i : ℕ) (xs : List (Slot C)) (x : Slot C) → take n (set xs i x) ≡ set (take n xs) i x
  take_set zero i xs x = refl
  take_set (suc n) i [] x = refl
  take_set (suc n) zero (y ∷ ys) x = refl
  take_set (suc n) (suc i) (y ∷ ys) x = ap (λ (zs : List (Slot C)). y ∷ zs) (take_set n i ys x)
