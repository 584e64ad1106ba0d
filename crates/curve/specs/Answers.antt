-- How a call refuses: with the first rule that is broken, and what is said of it.
use Rattle.std.specs.Prelude.{◌≡◌, ℕ, Bool, cond, List, [], ◌∷◌, ◌++◌, Some, None, Ok, Err, codes, decimal, Option, Result}

-- the first broken rule, of rules in their order, each a test with the fault that its failure means
abbrev pub broken : {F : Type 0} → List (Bool × F) → Option F
broken [] = None
broken (rule ∷ rules) = cond rule.0 (broken rules) (Some rule.1)

-- a call refuses with the given fault; where there is none, it answers a value of which P holds
abbrev pub Answers : {X F : Type 0} → Result X F → Option F → (X → Type 0) → Type 0
Answers (Ok x) fault P = (fault ≡ None) × P x
Answers (Err e) fault P = fault ≡ Some e

-- what is said of a refusal: its number, and the slot that it names
abbrev pub refused_text : ℕ → Option ℕ → List ℕ
refused_text n None = codes "refused " ++ decimal n
refused_text n (Some slot) = codes "refused " ++ (decimal n ++ (codes " slot " ++ decimal slot))
