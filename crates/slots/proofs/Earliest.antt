-- The first place at which a test fails, as a search through a list finds it.
use Rattle.std.proofs.Common.{◌≡◌, ℕ, suc, ◌+◌, Bool, true, false, List, [], ◌∷◌, Some, None, Option, refl, ap, arith}
use Rattle.std.specs.Option.{option_map}
use Rattle.std.specs.List.{AllByRecursion}
use Rattle.slots.specs.Judging.{earliest}

-- a place in what is left after the first n, counted from the start
abbrev pub after : ℕ → Option ℕ → Option ℕ
after n place = option_map (λ k. n + k) place

-- one more is passed
after_more : (n : ℕ) (place : Option ℕ) → after n (option_map suc place) ≡ after (n + 1) place
after_more n None = refl
after_more n (Some k) = ap Some (omega arith)

-- where nothing is made of a place, there is none
pub none_mapped : {X : Type 0} (make : ℕ → X) (place : Option ℕ) → option_map make place ≡ None → place ≡ None
none_mapped make None e = refl
none_mapped make (Some k) e = grind arith

module _ {X : Type 0} (test : X → Bool) where
  -- where the first of what is left passes, it is passed by
  pub earliest_more : (left : List X) (x : X) (xs : List X) (n : ℕ) → left ≡ x ∷ xs → test x ≡ true → after n (earliest test left) ≡ after (n + 1) (earliest test xs)
  unfolding earliest
  earliest_more left x xs n first pass = rw (first, pass) (after_more n (earliest test xs))

  -- where it fails, it is the place
  pub earliest_here : (left : List X) (x : X) (xs : List X) (n : ℕ) → left ≡ x ∷ xs → test x ≡ false → after n (earliest test left) ≡ Some n
  unfolding earliest
  earliest_here left x xs n first fail = rw (first, fail) (ap Some (omega arith))

  -- where nothing is left there is no such place
  pub earliest_end : (left : List X) (n : ℕ) → left ≡ [] → after n (earliest test left) ≡ None
  unfolding earliest
  earliest_end left n over = rw over

  -- where each element passes there is no such place
  pub none_from_all : (xs : List X) → AllByRecursion (λ x. test x ≡ true) xs → earliest test xs ≡ None
  unfolding earliest
  none_from_all [] pass = refl
  none_from_all (x ∷ xs) pass = rw (pass.0, none_from_all xs pass.1)

  -- where there is no such place each element passes
  pub all_from_none : (xs : List X) → earliest test xs ≡ None → AllByRecursion (λ x. test x ≡ true) xs
  unfolding earliest
  all_from_none [] e = tt
  all_from_none (x ∷ xs) e = split (test x) refl (all_from_none xs)
    where
      split : (t : Bool) → test x ≡ t → (earliest test xs ≡ None → AllByRecursion (λ x. test x ≡ true) xs) → (test x ≡ true) × AllByRecursion (λ x. test x ≡ true) xs
      split true p rest = (p, rest (none_mapped suc (earliest test xs) (rw p at e)))
      split false p rest = let found = rw p at e in absurd (cc)
