-- The first pass of leans, one slot at a time.
use Rattle.std.proofs.Common.{◌≡◌, ℕ, ◌+◌, ◌*◌, ◌≤◌, ◌⊎◌, true, List, [], ◌∷◌, ◌++◌, length, take, set, ℤ, pos, neg_ℤ, ◌≤ℤ◌, Some, None, Option, sym, refl, inl, inr, ◌∙◌, append_assoc, arith, take_all}
use Rattle.std.specs.Borrow.{Bor}
use Rattle.std.proofs.lemmas.List.{append-nil, take_more_set}
use Rattle.std.proofs.lemmas.Int.{ints}
use Rattle.curve.specs.Limits.{last_step, step_limit}
use Rattle.curve.specs.Tests.{and_left, and_right}
use Rattle.optimum.specs.Plans.{Within}
use Rattle.optimum.proofs.LeanPasses.{forward_lean, forward_from, forward_with, forward}
use Rattle.optimum.proofs.LeanSizes.{Sized, sized_wider, forward_lean_size}
use Rattle.slots.specs.Limits.{toll_limit}
use Rattle.slots.specs.SlotTerms.{slot_terms, day_terms}
use Rattle.slots.specs.Slots.{proper, all_proper}
use Rattle.slots.specs.declared.slot.Slot.{Slot}
use Rattle.planner.proofs.SlotSizes.{proper_sized}

module _ {C : Type 0} (ground : C → ℤ) (steps : C → ℕ → ℤ) where
  -- the lean of a slot at a level, coming from the slot before with its level and its lean; 0 where there is none
  abbrev pub lean_from : Option (Bor (Slot C) × ℕ × ℤ) → Slot C → ℕ → ℤ
  lean_from None s x = pos 0
  lean_from (Some (s₀, u, l)) s x = forward_lean (slot_terms ground steps s₀.now) u l (slot_terms ground steps s) x

  -- the leans of the slots that are left
  abbrev pub leans_from : Option (Bor (Slot C) × ℕ × ℤ) → List (Slot C) → List ℕ → List ℤ
  leans_from None ss xs = forward (day_terms ground steps ss) xs
  leans_from (Some (s₀, u, l)) ss xs = forward_from (slot_terms ground steps s₀.now) u l (day_terms ground steps ss) xs

  -- they are the lean of the first and those behind it
  leans_more :
      (before : Option (Bor (Slot C) × ℕ × ℤ)) (s : Bor (Slot C)) (ss : List (Slot C)) (x : ℕ) (xs : List ℕ) →
      leans_from before (s.now ∷ ss) (x ∷ xs) ≡ lean_from before s.now x ∷ leans_from (Some (s, x, lean_from before s.now x)) ss xs
  unfolding forward forward_with forward_from
  leans_more None s ss x xs = refl
  leans_more (Some (s₀, u, l)) s ss x xs = refl

  leans_end : (before : Option (Bor (Slot C) × ℕ × ℤ)) (xs : List ℕ) → leans_from before [] xs ≡ []
  unfolding forward forward_with forward_from
  leans_end None xs = refl
  leans_end (Some (s₀, u, l)) xs = refl

  -- where no level is left, no slot is
  none_left : (ss : List (Slot C)) (xs : List ℕ) → Within (day_terms ground steps ss) xs → (ss ≡ []) ⊎ (xs ≡ []) → ss ≡ []
  unfolding Within
  none_left ss xs within (inl e) = e
  none_left [] xs within (inr e) = refl
  none_left (s ∷ ss) xs within (inr e) = absurd (rw e at within)

  -- the slot before is proper, its level within its bounds, and its lean no larger than i tolls
  abbrev pub Sound : ℕ → Option (Bor (Slot C) × ℕ × ℤ) → Type 0
  Sound i None = Unit {0}
  Sound i (Some (s₀, u, l)) = (proper s₀.now ≡ true) × (u ≤ s₀.now.high) × Sized (i * toll_limit) l

  -- the leans of the first i slots are found, those of the slots ss at the levels xs are left
  pub record Led (slots : List (Slot C)) (levels : List ℕ) (i : ℕ) (leans : List ℤ) (before : Option (Bor (Slot C) × ℕ × ℤ)) (ss : List (Slot C)) (xs : List ℕ) : Type 0 where
    pub found : forward (day_terms ground steps slots) levels ≡ take i leans ++ leans_from before ss xs
    pub left : i + length ss ≡ length slots
    pub good : all_proper ss ≡ true
    pub within : Within (day_terms ground steps ss) xs
    pub sound : Sound i before

  -- behind the last slot all are found
  pub led_all :
      {slots : List (Slot C)} {levels : List ℕ} {i : ℕ} {leans : List ℤ} {before : Option (Bor (Slot C) × ℕ × ℤ)} {ss : List (Slot C)} {xs : List ℕ} →
      Led slots levels i leans before ss xs → length leans ≡ length slots → (ss ≡ []) ⊎ (xs ≡ []) → leans ≡ forward (day_terms ground steps slots) levels
  led_all {slots} {i = i} {leans} {before} {ss} {xs} led each over =
      let none = none_left ss xs led.within over in
      let found = rw (none, leans_end before xs, append-nil) at led.found in
      let counts = rw none at led.left in
      sym (found ∙ take_all i leans (omega arith))

  module _ (bounded : (c : C) (v : ℕ) → v ≤ last_step → (neg_ℤ (pos step_limit) ≤ℤ steps c v) × (steps c v ≤ℤ pos step_limit)) where
    -- a lean is larger than the one before by a toll at most
    lean_sized :
        (i : ℕ) (before : Option (Bor (Slot C) × ℕ × ℤ)) (s : Slot C) (x : ℕ) → Sound i before → proper s ≡ true → Sized ((i + 1) * toll_limit) (lean_from before s x)
    lean_sized i None s x sound good = record { least = omega (arith, ints); most = omega (arith, ints) }
    lean_sized i (Some (s₀, u, l)) s x sound good =
        let size = forward_lean_size toll_limit (i * toll_limit) _ u l _ x (proper_sized ground steps bounded s₀.now sound.0) (proper_sized ground steps bounded s good) sound.1 sound.2 in
        sized_wider (i * toll_limit + toll_limit) ((i + 1) * toll_limit) (omega arith) _ size

    -- one slot more
    pub led_more :
        {slots : List (Slot C)} {levels : List ℕ} {i : ℕ} {leans : List ℤ} {before : Option (Bor (Slot C) × ℕ × ℤ)} {left : List (Slot C)} {rest : List ℕ} →
        Led slots levels i leans before left rest →
        (s : Bor (Slot C)) (ss : List (Slot C)) (x : ℕ) (xs : List ℕ) (lean : ℤ) → left ≡ s.now ∷ ss → rest ≡ x ∷ xs → length leans ≡ length slots → lean ≡ lean_from before s.now x →
        Led slots levels (i + 1) (set leans i lean) (Some (s, x, lean)) ss xs
    unfolding Within
    led_more {slots} {i = i} {leans} {before} led s ss x xs lean p q room is =
        let found = rw (p, q) at led.found in
        let good = rw p at led.good in
        let within = rw (p, q) at led.within in
        let counts = rw p at led.left in
        let own = and_left (proper s.now) (all_proper ss) good in
        record {
          found = rw (take_more_set leans i lean (omega arith), append_assoc, is) (found ∙ rw leans_more);
          left = omega arith;
          good = and_right (proper s.now) (all_proper ss) good;
          within = within.2;
          sound = (own, within.1, rw is (lean_sized i before s.now x led.sound own));
        }
