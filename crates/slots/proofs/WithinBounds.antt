-- Levels inside their bounds, one by one, and a plan within the bounds.
use Rattle.std.proofs.Common.{◌≡◌, ℕ, true, List, [], ◌∷◌, length, arith}
use Rattle.std.proofs.lemmas.Bool.Decides.{nat_tests}
use Rattle.std.specs.List.{zip, AllByRecursion}
use Rattle.optimum.specs.Plans.{Terms, Within}
use Rattle.slots.specs.Judging.{inside}

-- levels for all slots, each inside its bounds, are a plan within the bounds
pub within_from : (ts : List Terms) (xs : List ℕ) → length xs ≡ length ts → AllByRecursion (λ p. inside p ≡ true) (zip ts xs) → Within ts xs
unfolding Within
within_from [] [] same all = tt
within_from [] (x ∷ xs) same all = omega arith
within_from (t ∷ ts) [] same all = omega arith
within_from (t ∷ ts) (x ∷ xs) same all =
    let here = all.0 in
    (grind (arith, nat_tests), grind (arith, nat_tests), within_from ts xs (omega arith) all.1)

-- each level of a plan within the bounds is inside its bounds
pub within_inside : (ts : List Terms) (xs : List ℕ) → Within ts xs → AllByRecursion (λ p. inside p ≡ true) (zip ts xs)
unfolding Within
within_inside [] xs within = tt
within_inside (t ∷ ts) [] within = tt
within_inside (t ∷ ts) (x ∷ xs) within =
    let low = within.0 in
    let high = within.1 in
    (grind (arith, nat_tests), within_inside ts xs within.2)
