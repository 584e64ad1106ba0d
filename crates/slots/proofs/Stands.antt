-- The slots of a day as the rules of leans look at them, one at a time, and with small numbers.
use Rattle.std.proofs.Common.{◌≡◌, ℕ, ◌+◌, true, false, ◌&&◌, leb, ◌⊎◌, List, [], ◌∷◌, length, get_or, drop, ℤ, pos, Some, None, Option, refl, sym, ap, ◌∙◌, arith}
use Rattle.std.proofs.lemmas.List.{drop-drop, get_or-drop}
use Rattle.std.proofs.lemmas.Int.{ints}
use Rattle.std.proofs.lemmas.Bool.Decides.{nat_tests}
use Rattle.std.specs.List.{zip, AllByRecursion}
use Rattle.curve.specs.Tests.{and_left, and_right, both}
use Rattle.curve.specs.Limits.{top, held_by}
use Rattle.optimum.specs.Leans.{Stand, stands, next_lean, bounded}
use Rattle.slots.specs.Judging.{earliest, inside}
use Rattle.slots.specs.Limits.{toll_limit}
use Rattle.slots.specs.SlotTerms.{slot_terms, day_terms}
use Rattle.slots.specs.Slots.{proper, all_proper}
use Rattle.slots.specs.Stands.{Rule, small}
use Rattle.slots.specs.declared.slot.Slot.{Slot}
use Rattle.slots.proofs.Earliest.{after, earliest_more, earliest_here, earliest_end}

-- what follows the first of those that are left is left after one more
pub left_more : {X : Type 0} (n : ℕ) (xs : List X) (x : X) (rest : List X) → drop n xs ≡ x ∷ rest → rest ≡ drop (n + 1) xs
left_more n xs x rest left = sym (ap (drop 1) left) ∙ drop-drop 1 n xs

-- the lean after the first of those that are left
pub next_lean_left : (n : ℕ) (leans : List ℤ) (l : ℤ) (rest : List ℤ) → drop n leans ≡ l ∷ rest → get_or leans (n + 1) (pos 0) ≡ next_lean rest
unfolding next_lean
next_lean_left n leans l rest left = sym (get_or-drop n leans 1 (pos 0)) ∙ (ap (λ ls. get_or ls 1 (pos 0)) left ∙ first rest)
  where
    first : (ls : List ℤ) → get_or ls 0 (pos 0) ≡ next_lean ls
    first [] = refl
    first (l ∷ ls) = refl

module _ {C : Type 0} (ground : C → ℤ) (steps : C → ℕ → ℤ) (rule : Rule) where
  -- the earliest break of a rule among some slots
  abbrev pub break : Option ℕ → List (Slot C) → List ℕ → List ℤ → Option ℕ
  break before slots levels leans = earliest rule (stands before (day_terms ground steps slots) levels leans)

  module _ (n : ℕ) (before : Option ℕ) (s : Slot C) (ss : List (Slot C)) (x : ℕ) (xs : List ℕ) (l : ℤ) (ls : List ℤ) where
    -- the first slot as the rules look at it
    abbrev pub first_stand : Stand
    first_stand = record { terms = slot_terms ground steps s; before = before; level = x; lean = l; next = next_lean ls }

    -- a slot that keeps the rule is passed by
    pub break_more :
        {slots : List (Slot C)} {levels : List ℕ} {leans : List ℤ} → slots ≡ s ∷ ss → levels ≡ x ∷ xs → leans ≡ l ∷ ls →
        true ≡ rule first_stand → after n (break before slots levels leans) ≡ after (n + 1) (break (Some x) ss xs ls)
    unfolding stands
    break_more p q r keeps = rw (p, q, r) (earliest_more rule _ _ _ n refl (sym keeps))

    -- a slot that breaks it is found
    pub break_here :
        {slots : List (Slot C)} {levels : List ℕ} {leans : List ℤ} → slots ≡ s ∷ ss → levels ≡ x ∷ xs → leans ≡ l ∷ ls →
        false ≡ rule first_stand → after n (break before slots levels leans) ≡ Some n
    unfolding stands
    break_here p q r breaks = rw (p, q, r) (earliest_here rule _ _ _ n refl (sym breaks))

  -- at the end none is found
  pub break_end : (n : ℕ) (before : Option ℕ) (slots : List (Slot C)) (levels : List ℕ) (leans : List ℤ) → ((length slots ≡ 0) ⊎ (length levels ≡ 0)) ⊎ (length leans ≡ 0) → after n (break before slots levels leans) ≡ None
  unfolding stands
  break_end n before [] levels leans over = earliest_end rule _ n refl
  break_end n before (s ∷ ss) [] leans over = earliest_end rule _ n refl
  break_end n before (s ∷ ss) (x ∷ xs) [] over = earliest_end rule _ n refl
  break_end n before (s ∷ ss) (x ∷ xs) (l ∷ ls) over = absurd (grind arith)

-- where one fact gives another, it does so all along a list
pub all_given : {X : Type 0} (P Q : X → Type 0) → ((x : X) → P x → Q x) → (xs : List X) → AllByRecursion P xs → AllByRecursion Q xs
all_given P Q then [] all = tt
all_given P Q then (x ∷ xs) all = (then x all.0, all_given P Q then xs all.1)

module _ {C : Type 0} (ground : C → ℤ) (steps : C → ℕ → ℤ) where
  -- what holds of each slot holds of the first, and of the others
  pub all_parted :
      (P : Stand → Type 0) (before : Option ℕ) (s : Slot C) (ss : List (Slot C)) (x : ℕ) (xs : List ℕ) (l : ℤ) (ls : List ℤ)
      {slots : List (Slot C)} {levels : List ℕ} {leans : List ℤ} → slots ≡ s ∷ ss → levels ≡ x ∷ xs → leans ≡ l ∷ ls →
      AllByRecursion P (stands before (day_terms ground steps slots) levels leans) →
      P (record { terms = slot_terms ground steps s; before = before; level = x; lean = l; next = next_lean ls })
      × AllByRecursion P (stands (Some x) (day_terms ground steps ss) xs ls)
  unfolding stands
  all_parted P before s ss x xs l ls p q r all = rw (p, q, r) at all

  -- a level inside the bounds of a proper slot is a level
  level_small : (s : Slot C) (level : ℕ) → proper s ≡ true → inside (slot_terms ground steps s, level) ≡ true → (leb level top && leb s.high top) ≡ true
  level_small s level kept within = grind (arith, nat_tests)

  -- a lean within the tolls of a proper slot lies within the largest toll
  lean_small :
      (s : Slot C) (before : Option ℕ) (level : ℕ) (lean next : ℤ) →
      proper s ≡ true → bounded (record { terms = slot_terms ground steps s; before = before; level = level; lean = lean; next = next }) ≡ true → held_by toll_limit lean ≡ true
  unfolding bounded
  lean_small s None level lean next kept within = grind (arith, ints, nat_tests)
  lean_small s (Some u) level lean next kept within = grind (arith, ints, nat_tests)

  -- so does the first of bounded leans
  next_small :
      (before : Option ℕ) (slots : List (Slot C)) (levels : List ℕ) (leans : List ℤ) →
      length levels ≡ length slots → length leans ≡ length slots → all_proper slots ≡ true →
      AllByRecursion (λ s. bounded s ≡ true) (stands before (day_terms ground steps slots) levels leans) →
      held_by toll_limit (next_lean leans) ≡ true
  unfolding stands next_lean
  next_small before slots levels [] levels_each leans_each kept within = refl
  next_small before [] levels (l ∷ ls) levels_each leans_each kept within = absurd (omega arith)
  next_small before (s ∷ slots) [] (l ∷ ls) levels_each leans_each kept within = absurd (omega arith)
  next_small before (s ∷ slots) (x ∷ xs) (l ∷ ls) levels_each leans_each kept within =
      lean_small s before x l (next_lean ls) (and_left (proper s) (all_proper slots) kept) within.0

  -- where the levels are inside and the leans bounded, all slots have small numbers
  pub stands_small :
      (before : Option ℕ) (slots : List (Slot C)) (levels : List ℕ) (leans : List ℤ) →
      length levels ≡ length slots → length leans ≡ length slots → all_proper slots ≡ true →
      AllByRecursion (λ p. inside p ≡ true) (zip (day_terms ground steps slots) levels) →
      AllByRecursion (λ s. bounded s ≡ true) (stands before (day_terms ground steps slots) levels leans) →
      AllByRecursion (λ s. small s ≡ true) (stands before (day_terms ground steps slots) levels leans)
  unfolding stands
  stands_small before [] levels leans levels_each leans_each kept insides within = tt
  stands_small before (s ∷ slots) [] leans levels_each leans_each kept insides within = tt
  stands_small before (s ∷ slots) (x ∷ xs) [] levels_each leans_each kept insides within = tt
  stands_small before (s ∷ slots) (x ∷ xs) (l ∷ ls) levels_each leans_each kept insides within =
      let here = and_left (proper s) (all_proper slots) kept in
      let others = and_right (proper s) (all_proper slots) kept in
      let lean = lean_small s before x l (next_lean ls) here within.0 in
      let next = next_small (Some x) slots xs ls (omega arith) (omega arith) others within.1 in (
        both (level_small s x here insides.0) (both lean next),
        stands_small (Some x) slots xs ls (omega arith) (omega arith) others insides.1 within.1,
      )
