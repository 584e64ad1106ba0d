-- Each number of the rules for curves, once.
use Rattle.std.specs.Prelude.{ℕ, Bool, ◌&&◌, ℤ, pos, neg_ℤ, ◌≤ℤ◌, int_le}

-- the warmest level
abbrev pub top : ℕ
top = 1023

-- the level of the last step: the one from it to the warmest level
abbrev pub last_step : ℕ
last_step = 1022

-- a step lies from minus this to this
abbrev pub step_limit : ℕ
step_limit = 1000000000

-- a ground lies from minus this to this
abbrev pub ground_limit : ℕ
ground_limit = 1000000000000

-- the largest weight of a square curve
abbrev pub weight_limit : ℕ
weight_limit = 400000

-- the largest rate of a band curve, and the largest step of a knees curve in size
abbrev pub rate_limit : ℕ
rate_limit = 900000000

-- the most knees of a knees curve
abbrev pub knee_limit : ℕ
knee_limit = 6

-- a number lies from minus a limit to that limit
abbrev pub Within : ℕ → ℤ → Type 0
Within limit z = (neg_ℤ (pos limit) ≤ℤ z) × (z ≤ℤ pos limit)

-- and the test of it
abbrev pub held_by : ℕ → ℤ → Bool
held_by limit z = int_le (neg_ℤ (pos limit)) z && int_le z (pos limit)
