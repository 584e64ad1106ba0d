-- The walk back finds the coldest of the plans that cost least under a message.
use Rattle.std.proofs.Common.{◌≡◌, ℕ, ◌≤◌, List, [], ◌∷◌, ℤ, pos, neg_ℤ, ◌≤ℤ◌, arith}
use native.Mathlib.Decide.{dec_lt}
use Rattle.std.specs.List.{AllByRecursion}
use Rattle.std.proofs.lemmas.Int.{ints}
use Rattle.optimum.specs.Plans.{Terms, Within}
use Rattle.optimum.specs.Coldest.{NoWarmer}
use Rattle.optimum.specs.Theorems.{Convex, Open}
use Rattle.optimum.proofs.Sweep.{next_up, next_down, first_level, held, next_message, level_before, walk}
use Rattle.optimum.proofs.Thresholds.{threshold_first}
use Rattle.optimum.proofs.Messages.{Monotone}
use Rattle.optimum.proofs.PriceUnder.{price_under, next_monotone, price_under_least, price_under_less, price_under_same}

-- the walk stays within the bounds
pub walk_within : (message : ℕ → ℤ) (ts : List Terms) → AllByRecursion Open ts → Within ts (walk message ts)
unfolding walk Within held
walk_within message [] opens = tt
walk_within message (t ∷ ts) opens =
    let first = threshold_first message t (neg_ℤ (pos (next_down ts))) opens.0 in
    let second = threshold_first message t (pos (next_up ts)) opens.0 in
    (omega arith, omega arith, walk_within (next_message message t ts) ts opens.1)

-- at the last slot both thresholds are one, so that the walk may start from any level
pub last_level : (message : ℕ → ℤ) (t : Terms) (u v : ℕ) → level_before message t [] u ≡ level_before message t [] v
unfolding held next_up next_down
last_level message t u v = omega arith

-- no plan within the bounds costs less than the walk
pub walk_least : (message : ℕ → ℤ) (ts : List Terms) → Monotone message → AllByRecursion Convex ts → AllByRecursion Open ts →
    (ys : List ℕ) → Within ts ys → price_under message ts (walk message ts) ≤ℤ price_under message ts ys
unfolding walk Within
walk_least message [] monotone convex opens [] within = omega (arith, ints)
walk_least message [] monotone convex opens (y ∷ ys) within = absurd within
walk_least message (t ∷ ts) monotone convex opens [] within = absurd within
walk_least message (t ∷ ts) monotone convex opens (y ∷ ys) within =
    let next = next_message message t ts in
    let same = price_under_same message t ts monotone convex.0 opens.0 (walk next ts) (walk_within next ts opens.1) in
    let least = price_under_least message t ts monotone convex.0 opens.0 ys within.2 y within.0 within.1 in
    let rest = walk_least next ts (next_monotone message t ts monotone convex.0 opens.0) convex.1 opens.1 ys within.2 in
    omega (arith, ints)

-- a plan that is nowhere warmer begins no warmer
no_warmer_first : (xs ys : List ℕ) → NoWarmer xs ys → first_level xs ≤ first_level ys
unfolding NoWarmer first_level
no_warmer_first [] [] no_warmer = omega arith
no_warmer_first [] (y ∷ ys) no_warmer = absurd no_warmer
no_warmer_first (x ∷ xs) [] no_warmer = absurd no_warmer
no_warmer_first (x ∷ xs) (y ∷ ys) no_warmer = no_warmer.0

-- and the walk is nowhere warmer than a plan that costs as little
pub walk_coldest : (message : ℕ → ℤ) (ts : List Terms) → Monotone message → AllByRecursion Convex ts → AllByRecursion Open ts →
    (ys : List ℕ) → Within ts ys → price_under message ts ys ≤ℤ price_under message ts (walk message ts) → NoWarmer (walk message ts) ys
unfolding walk Within NoWarmer held
walk_coldest message [] monotone convex opens [] within as_little = tt
walk_coldest message [] monotone convex opens (y ∷ ys) within as_little = absurd within
walk_coldest message (t ∷ ts) monotone convex opens [] within as_little = absurd within
walk_coldest message (t ∷ ts) monotone convex opens (y ∷ ys) within as_little =
    let next = next_message message t ts in
    let falls_not = next_monotone message t ts monotone convex.0 opens.0 in
    let same = price_under_same message t ts monotone convex.0 opens.0 (walk next ts) (walk_within next ts opens.1) in
    let least = price_under_least message t ts monotone convex.0 opens.0 ys within.2 y within.0 within.1 in
    let rest_least = walk_least next ts falls_not convex.1 opens.1 ys within.2 in
    let rest : NoWarmer (walk next ts) ys = walk_coldest next ts falls_not convex.1 opens.1 ys within.2 (omega (arith, ints)) in
    elim (dec_lt y (level_before message t ts (first_level ys))) [
      | yes below ↦ absurd (omega (arith, ints, price_under_less message t ts monotone convex.0 opens.0 ys within.2 y within.0 within.1 below))
      | no above ↦ (omega (arith, no_warmer_first (walk next ts) ys rest), rest)
    ]
