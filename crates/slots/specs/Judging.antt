-- When a plan is refused by price and check.
use Rattle.std.specs.Prelude.{ℕ, suc, Bool, cond, ◌&&◌, List, [], ◌∷◌, length, ℤ, Some, None, Option, ◌==◌, nat_le}
use Rattle.std.specs.Option.{option_map}
use Rattle.std.specs.List.{zip}
use Rattle.optimum.specs.Plans.{Terms}
use Rattle.optimum.specs.Leans.{stands, bounded, follows_move, at_rest}
use Rattle.curve.specs.Answers.{broken}
use Rattle.slots.specs.Refusals.{first_refusal}
use Rattle.slots.specs.declared.refusal.Refusal.{Refusal}
use Rattle.slots.specs.declared.refusal.Refusal.TheVariants.{Count, Outside, Lean, Move, Rest}

-- the first place at which a test fails
unfoldable pub earliest : {X : Type 0} → (X → Bool) → List X → Option ℕ
earliest test [] = None
earliest test (x ∷ xs) = cond (test x) (option_map suc (earliest test xs)) (Some 0)

-- a level lies within the bounds of its slot
abbrev pub inside : Terms × ℕ → Bool
inside p = nat_le p.0.low p.1 && nat_le p.1 p.0.high

-- one level for each slot, and then each within its bounds
abbrev pub price_refusal : List Terms → List ℕ → Option Refusal
price_refusal ts xs = first_refusal (broken (((length xs == length ts), Count) ∷ []) ∷ option_map Outside (earliest inside (zip ts xs)) ∷ [])

-- one level and one lean for each slot, each level within its bounds, and then the three rules of leans, each tried on all slots before the next
abbrev pub check_rules : List Terms → List ℕ → List ℤ → List (Option Refusal)
check_rules ts xs ls =
    broken ((length xs == length ts && (length ls == length ts), Count) ∷ [])
    ∷ option_map Outside (earliest inside (zip ts xs))
    ∷ option_map Lean (earliest bounded (stands None ts xs ls))
    ∷ option_map Move (earliest follows_move (stands None ts xs ls))
    ∷ option_map Rest (earliest at_rest (stands None ts xs ls))
    ∷ []

abbrev pub check_refusal : List Terms → List ℕ → List ℤ → Option Refusal
check_refusal ts xs ls = first_refusal (check_rules ts xs ls)
