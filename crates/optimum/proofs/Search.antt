-- The search for the first plan of a list that costs least.
use Rattle.std.proofs.Common.{◌≡◌, ℕ, Bool, true, false, cond, List, [], ◌∷◌, ℤ, ◌≤ℤ◌, ◌<ℤ◌, sym, refl, subst, arith}
use mathlib.Core.List.Memᴰ
use mathlib.Core.List.{Memᴰ}
use lib.Signed.{lt_z}
use Rattle.std.specs.List.{AllByRecursion}
use Rattle.std.proofs.lemmas.Int.{ints}
use Rattle.optimum.specs.Coldest.{NoWarmer, first_least, first_of}

-- the second plan is somewhere warmer than the first
abbrev pub Warmer : List ℕ → List ℕ → Type 0
Warmer xs ys = NoWarmer ys xs → ⊥

-- a list of plans, cold to warm: each is somewhere warmer than each before it
abbrev pub ColdToWarm : List (List ℕ) → Type 0
ColdToWarm [] = Unit {0}
ColdToWarm (xs ∷ others) = AllByRecursion (Warmer xs) others × ColdToWarm others

-- what holds of each element of a list holds of any element
pub all_mem : {X : Type 0} (P : X → Type 0) {x : X} {xs : List X} → Memᴰ x xs → AllByRecursion P xs → P x
all_mem P (Memᴰ.head e) all = subst P (sym e) all.0
all_mem P (Memᴰ.tail member) all = all_mem P member all.1

-- of the plans that cost no more than best, only best itself is nowhere warmer
abbrev pub Alone : (List ℕ → ℤ) → List ℕ → List ℕ → Type 0
Alone f best xs = f xs ≤ℤ f best → NoWarmer xs best → best ≡ xs

module _ (f : List ℕ → ℤ) where
  -- one step of the search: what holds of the plan it goes on with
  by_cheaper : (P : List ℕ → Type 0) (best xs : List ℕ) → (f xs <ℤ f best → P xs) → (f best ≤ℤ f xs → P best) → P (cond (lt_z (f xs) (f best)) xs best)
  by_cheaper P best xs cheaper else' = go (lt_z (f xs) (f best)) refl
    where
      go : (test : Bool) → lt_z (f xs) (f best) ≡ test → P (cond test xs best)
      go true e = cheaper (omega (arith, ints))
      go false e = else' (omega (arith, ints))

  -- what holds of each plan holds of the one that is found
  least_one : (P : List ℕ → Type 0) (best : List ℕ) (others : List (List ℕ)) → AllByRecursion P (best ∷ others) → P (first_least f best others)
  unfolding first_least
  least_one P best [] all = all.0
  least_one P best (xs ∷ others) all =
      by_cheaper (λ b. P (first_least f b others)) best xs (λ _. least_one P xs others all.1) (λ _. least_one P best others (all.0, all.1.1))

  -- no plan costs less than the one that is found
  least_least : (best : List ℕ) (others : List (List ℕ)) → AllByRecursion (λ xs. f (first_least f best others) ≤ℤ f xs) (best ∷ others)
  unfolding first_least
  least_least best [] = (omega (arith, ints), tt)
  least_least best (xs ∷ others) =
      by_cheaper
      (λ b. AllByRecursion (λ ys. f (first_least f b others) ≤ℤ f ys) (best ∷ xs ∷ others))
      best
      xs
      (λ less. let rest = least_least xs others in (omega (arith, ints, rest.0), rest))
      (λ more. let rest = least_least best others in (rest.0, (omega (arith, ints, rest.0), rest.1)))

  -- the first plan is found, unless another costs less
  least_stays : (best : List ℕ) (others : List (List ℕ)) → f best ≤ℤ f (first_least f best others) → first_least f best others ≡ best
  unfolding first_least
  least_stays best [] = λ _. refl
  least_stays best (xs ∷ others) =
      by_cheaper
      (λ b. f best ≤ℤ f (first_least f b others) → first_least f b others ≡ best)
      best
      xs
      (λ less least. absurd (omega (arith, ints, (least_least xs others).0)))
      (λ more. least_stays best others)

  -- a later plan that costs as little is warmer than the one that is found
  least_later : (best xs : List ℕ) (others : List (List ℕ)) → f best ≤ℤ f xs → Warmer best xs → Alone f (first_least f best others) xs
  least_later best xs others more warmer least no_warmer =
      absurd (warmer (subst (NoWarmer xs) (least_stays best others (omega (arith, ints))) no_warmer))

  -- so, cold to warm, no other plan that costs as little is nowhere warmer than the one that is found
  least_alone : (best : List ℕ) (others : List (List ℕ)) → ColdToWarm (best ∷ others) → AllByRecursion (Alone f (first_least f best others)) (best ∷ others)
  unfolding first_least
  least_alone best [] order = (λ _ _. refl, tt)
  least_alone best (xs ∷ others) order =
      by_cheaper
      (λ b. AllByRecursion (Alone f (first_least f b others)) (best ∷ xs ∷ others))
      best
      xs
      (λ less. (λ least _. absurd (omega (arith, ints, (least_least xs others).0)), least_alone xs others order.1))
      (λ more. let rest = least_alone best others (order.0.1, order.1.1) in (rest.0, (least_later best xs others more order.0.0, rest.1)))

  -- the same three of a list that has a plan: what holds of each plan holds of the one that is found
  pub first_of_one : (P : List ℕ → Type 0) (xs : List ℕ) (list : List (List ℕ)) → Memᴰ xs list → AllByRecursion P list → P (first_of f list)
  unfolding first_of
  first_of_one P xs [] member all = absurd (Memᴰ.not-nil member)
  first_of_one P xs (best ∷ others) member all = least_one P best others all

  -- no plan costs less
  pub first_of_least : (list : List (List ℕ)) → AllByRecursion (λ xs. f (first_of f list) ≤ℤ f xs) list
  unfolding first_of
  first_of_least [] = tt
  first_of_least (best ∷ others) = least_least best others

  -- and, cold to warm, no other that costs as little is nowhere warmer
  pub first_of_alone : (list : List (List ℕ)) → ColdToWarm list → AllByRecursion (Alone f (first_of f list)) list
  unfolding first_of
  first_of_alone [] order = tt
  first_of_alone (best ∷ others) order = least_alone best others order
