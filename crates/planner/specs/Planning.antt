-- When planning is refused, and what it leaves in the buffers that are lent for it.
use Rattle.std.specs.Prelude.{◌≡◌, ℕ, ◌*◌, ◌&&◌, List, [], ◌∷◌, ◌++◌, length, take, drop, ℤ, Some, None, Option, nat_le}
use Rattle.curve.specs.Answers.{broken}
use Rattle.optimum.specs.Plans.{Terms}
use Rattle.optimum.specs.Leans.{Obeys}
use Rattle.optimum.specs.Coldest.{plan}
use Rattle.slots.specs.Limits.{table_length}
use Rattle.slots.specs.declared.refusal.Refusal.{Refusal}
use Rattle.slots.specs.declared.refusal.Refusal.TheVariants.{Short}

-- the lengths of the four buffers: a level and a lean for each of n slots, a work table, and two levels a slot
abbrev pub plan_refusal : ℕ → ℕ → ℕ → ℕ → ℕ → Option Refusal
plan_refusal n levels leans table marks =
    broken ((nat_le n levels && nat_le n leans && nat_le table_length table && nat_le (2 * n) marks, Short) ∷ [])

-- the same, with the buffers themselves
abbrev pub short_for : ℕ → List ℕ → List ℤ → List ℤ → List ℕ → Option Refusal
short_for n levels leans table marks = plan_refusal n (length levels) (length leans) (length table) (length marks)

-- the levels are those of the plan, and the places beyond the day are as they were
abbrev pub planned : Option Refusal → List ℕ → List ℕ → List ℕ
planned None xs levels = xs ++ drop (length xs) levels
planned (Some refusal) xs levels = levels

-- the leans obey the rules with the plan, and the places beyond the day are as they were
abbrev pub Leaned : Option Refusal → List Terms → List ℤ → List ℤ → Type 0
Leaned None ts leans after = Obeys None ts (plan None ts) (take (length ts) after) × (drop (length ts) after ≡ drop (length ts) leans)
Leaned (Some refusal) ts leans after = after ≡ leans

-- the work memory is free, unless the call is refused
abbrev pub Spent : {X : Type 0} → Option Refusal → List X → List X → Type 0
Spent None memory after = Unit {0}
Spent (Some refusal) memory after = after ≡ memory
