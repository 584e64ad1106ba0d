-- The knees curve of a ground, a first step and some knees: levels, each beside the step that holds from there on.
use Rattle.std.specs.Prelude.{ℕ, Bool, true, cond, ◌&&◌, List, [], ◌∷◌, ◌++◌, take, drop, replicate, ℤ, Option, int_le, nat_le, nat_lt}
use Rattle.curve.specs.Answers.{broken}
use Rattle.curve.specs.Limits.{last_step, rate_limit, ground_limit, knee_limit, held_by}
use Rattle.curve.specs.declared.fault.CurveFault.{CurveFault}
use Rattle.curve.specs.declared.fault.CurveFault.TheVariants.{KneeCount, KneeLevels, KneeSteps, Ground}

-- each item may follow the one before it, from a first one on
abbrev pub each_follows : {X : Type 0} → (X → X → Bool) → X → List X → Bool
each_follows rule before [] = true
each_follows rule before (x ∷ xs) = rule before x && each_follows rule x xs

-- each level lies above the one before it, and none above the last step
abbrev pub rise_from : ℕ → List ℕ → Bool
rise_from = each_follows (λ before level. nat_lt before level && nat_le level last_step)

-- no step falls below the one before it, and none is larger than the limit
abbrev pub never_fall : ℤ → List ℤ → Bool
never_fall = each_follows (λ before step. int_le before step && held_by rate_limit step)

-- the rules in their order, with the numbers of the knees that count
abbrev pub knees_rules : (ground : ℤ) (first : ℤ) (count : ℕ) (levels : List ℕ) (steps : List ℤ) → List (Bool × CurveFault)
knees_rules ground first count levels steps =
    (nat_le 1 count && nat_le count knee_limit, KneeCount)
    ∷ (rise_from 0 (take count levels), KneeLevels)
    ∷ (held_by rate_limit first && never_fall first (take count steps), KneeSteps)
    ∷ (held_by ground_limit ground, Ground)
    ∷ []

-- why it cannot be made
abbrev pub knees_fault : (ground : ℤ) (first : ℤ) (count : ℕ) (levels : List ℕ) (steps : List ℤ) → Option CurveFault
knees_fault ground first count levels steps = broken (knees_rules ground first count levels steps)

-- the step that holds at v: that of the last knee at or below v, and before any knee the first step
abbrev pub step_at : ℕ → ℤ → List ℕ → List ℤ → ℤ
step_at v first [] steps = first
step_at v first (level ∷ levels) [] = first
step_at v first (level ∷ levels) (step ∷ steps) = step_at v (cond (nat_le level v) step first) levels steps

-- what one level more costs at level v
unfoldable pub knees_step : ℤ → ℕ → List ℕ → List ℤ → ℕ → ℤ
knees_step first count levels steps v = step_at v first (take count levels) (take count steps)

-- the first count of six numbers, and zeros behind them
abbrev pub kept : {X : Type 0} → ℕ → List X → X → List X
kept count xs nought = take count xs ++ drop count (replicate knee_limit nought)
