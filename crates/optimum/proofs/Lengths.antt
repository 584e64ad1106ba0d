-- How many levels a plan of some slots has.
use Rattle.std.proofs.Common.{◌≡◌, ℕ, List, [], ◌∷◌, length, refl, arith}
use Rattle.optimum.specs.Plans.{Terms, Within}

-- a plan within the bounds has a level for each slot
pub within_length : (ts : List Terms) (xs : List ℕ) → Within ts xs → length xs ≡ length ts
unfolding Within
within_length [] [] within = refl
within_length [] (x ∷ xs) within = absurd within
within_length (t ∷ ts) [] within = absurd within
within_length (t ∷ ts) (x ∷ xs) within = omega (arith, within_length ts xs within.2)
