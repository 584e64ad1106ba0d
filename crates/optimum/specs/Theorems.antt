-- What leans are good for: they certify a plan, and they decide which plans are cheapest.
use Rattle.std.specs.Prelude.{ℕ, suc, ◌<◌, ◌≤◌, List, ℤ, ◌≤ℤ◌, Option}
use Rattle.std.specs.List.{AllByRecursion}
use Rattle.optimum.specs.Plans.{Terms, Within, Cheapest}
use Rattle.optimum.specs.Leans.{Obeys}
use Rattle.optimum.specs.Coldest.{Coldest, plan}

-- the steps of a slot never fall as the level rises, up to its high level
abbrev pub Convex : Terms → Type 0
Convex t = (v : ℕ) → suc v < t.high → t.steps v ≤ℤ t.steps (suc v)

-- a plan and leans that obey the rules: no plan within the bounds costs less
abbrev pub LeansCertify : Type 0
LeansCertify =
    (before : Option ℕ) (ts : List Terms) (xs : List ℕ) (ls : List ℤ) →
    AllByRecursion Convex ts → Within ts xs → Obeys before ts xs ls → Cheapest before ts xs

-- where some plan obeys the rules with given leans, a plan within the bounds obeys them with the same leans exactly if it is cheapest
abbrev pub LeansDecide : Type 0
LeansDecide =
    (before : Option ℕ) (ts : List Terms) (xs ys : List ℕ) (ls : List ℤ) →
    AllByRecursion Convex ts → Within ts xs → Obeys before ts xs ls → Within ts ys →
    (Obeys before ts ys ls → Cheapest before ts ys) × (Cheapest before ts ys → Obeys before ts ys ls)

-- a slot whose bounds leave a level open
abbrev pub Open : Terms → Type 0
Open t = t.low ≤ t.high

-- the plan of a day, found by the search, is the coldest in every slot
abbrev pub PlanIsColdest : Type 0
PlanIsColdest =
    (before : Option ℕ) (ts : List Terms) → AllByRecursion Convex ts → AllByRecursion Open ts → Coldest before ts (plan before ts)
