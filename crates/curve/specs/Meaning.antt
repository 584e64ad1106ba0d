-- What a curve means: a ground, which is its cost at level 0, and a step at each level, which is what one level more costs.
use Rattle.std.specs.Prelude.{ℕ, zero, suc, ℤ, pos, ◌+ℤ◌}

-- the sum of the first n values of f
unfoldable pub climb : (ℕ → ℤ) → ℕ → ℤ
climb f zero = pos 0
climb f (suc n) = climb f n +ℤ f n

-- the cost at a level: the ground and all the steps below that level
unfoldable pub cost : (ground : ℤ) (steps : ℕ → ℤ) (level : ℕ) → ℤ
unfolding climb
cost ground steps level = ground +ℤ climb steps level
