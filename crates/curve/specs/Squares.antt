-- The square curve of a weight w and a target a.
use Rattle.std.specs.Prelude.{ℕ, ◌*◌, ◌&&◌, [], ◌∷◌, ℤ, pos, ◌+ℤ◌, ◌-ℤ◌, ◌*ℤ◌, Option, nat_le}
use Rattle.curve.specs.Answers.{broken}
use Rattle.curve.specs.Limits.{top, weight_limit}
use Rattle.curve.specs.declared.fault.CurveFault.{CurveFault}
use Rattle.curve.specs.declared.fault.CurveFault.TheVariants.{Weight, Target}

-- why it cannot be made
abbrev pub square_fault : ℕ → ℕ → Option CurveFault
square_fault w a = broken ((nat_le 1 w && nat_le w weight_limit, Weight) ∷ (nat_le a top, Target) ∷ [])

-- what it costs at level v: the weight times the square of the distance from the target
unfoldable pub square_cost : ℕ → ℕ → ℕ → ℤ
square_cost w a v = pos w *ℤ ((pos v -ℤ pos a) *ℤ (pos v -ℤ pos a))

-- what it costs at level 0
unfoldable pub square_ground : ℕ → ℕ → ℤ
square_ground w a = pos (w * (a * a))

-- what one level more costs at level v
unfoldable pub square_step : ℕ → ℕ → ℕ → ℤ
square_step w a v = pos w *ℤ (pos 2 *ℤ (pos v -ℤ pos a) +ℤ pos 1)
