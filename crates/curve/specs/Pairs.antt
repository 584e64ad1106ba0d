-- The pair of two curves, given by their grounds and steps.
use Rattle.std.specs.Prelude.{ℕ, zero, suc, Bool, true, ◌&&◌, [], ◌∷◌, ℤ, pos, ◌+ℤ◌, neg_ℤ, Option}
use Rattle.std.specs.Int.{int_max, int_min}
use Rattle.curve.specs.Answers.{broken}
use Rattle.curve.specs.Limits.{top, step_limit, ground_limit, held_by}
use Rattle.curve.specs.declared.fault.CurveFault.{CurveFault}
use Rattle.curve.specs.declared.fault.CurveFault.TheVariants.{Sum}

-- a number held between minus a limit and that limit
abbrev pub hold : ℕ → ℤ → ℤ
hold limit z = int_max (neg_ℤ (pos limit)) (int_min z (pos limit))

-- what it costs at level 0, of two grounds
abbrev pub pair_ground : ℤ → ℤ → ℤ
pair_ground g h = hold ground_limit (g +ℤ h)

-- what one level more costs at level v, of two curves' steps
abbrev pub pair_step : (ℕ → ℤ) → (ℕ → ℤ) → ℕ → ℤ
pair_step s t v = hold step_limit (s v +ℤ t v)

-- a test passes at each of the first n numbers
unfoldable pub all_below : ℕ → (ℕ → Bool) → Bool
all_below zero test = true
all_below (suc n) test = test n && all_below n test

-- the sum of two steps needs no holding at level v
abbrev pub step_fits : (ℕ → ℤ) → (ℕ → ℤ) → ℕ → Bool
step_fits s t v = held_by step_limit (s v +ℤ t v)

-- the holding alters neither the ground nor any step
abbrev pub sums_fit : ℤ → (ℕ → ℤ) → ℤ → (ℕ → ℤ) → Bool
sums_fit g s h t = held_by ground_limit (g +ℤ h) && all_below top (step_fits s t)

-- why it cannot be made
abbrev pub pair_fault : ℤ → (ℕ → ℤ) → ℤ → (ℕ → ℤ) → Option CurveFault
pair_fault g s h t = broken ((sums_fit g s h t, Sum) ∷ [])
