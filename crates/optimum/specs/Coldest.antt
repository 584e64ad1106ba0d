-- The plan of a day as a value, found by a search through all plans, and what it means that a plan is the coldest.
use Rattle.std.specs.Prelude.{ℕ, zero, suc, ◌-◌, ◌≤◌, cond, List, [], ◌∷◌, ◌++◌, map, ℤ, Option, int_lt}
use Rattle.optimum.specs.Plans.{Terms, price, Cheapest}

-- no level of xs is warmer than that of ys in the same slot
unfoldable pub NoWarmer : List ℕ → List ℕ → Type 0
NoWarmer [] [] = Unit {0}
NoWarmer [] (y ∷ ys) = ⊥
NoWarmer (x ∷ xs) [] = ⊥
NoWarmer (x ∷ xs) (y ∷ ys) = (x ≤ y) × NoWarmer xs ys

-- the coldest plan is cheapest, and every cheapest plan is at least as warm in each slot
pub record Coldest (before : Option ℕ) (ts : List Terms) (xs : List ℕ) : Type 0 where
  pub cheapest : Cheapest before ts xs
  pub coldest : (ys : List ℕ) → Cheapest before ts ys → NoWarmer xs ys

-- n levels from low on
unfoldable pub levels : ℕ → ℕ → List ℕ
levels low zero = []
levels low (suc n) = low ∷ levels (suc low) n

-- each of the plans behind each of the levels
unfoldable pub behind : List ℕ → List (List ℕ) → List (List ℕ)
behind [] plans = []
behind (v ∷ vs) plans = map (λ xs. v ∷ xs) plans ++ behind vs plans

-- all plans within the bounds, cold to warm
unfoldable pub plans : List Terms → List (List ℕ)
plans [] = [] ∷ []
plans (t ∷ ts) = behind (levels t.low (suc t.high - t.low)) (plans ts)

-- the first that costs least, of best and the others behind it
unfoldable pub first_least : (List ℕ → ℤ) → List ℕ → List (List ℕ) → List ℕ
first_least f best [] = best
first_least f best (xs ∷ others) = first_least f (cond (int_lt (f xs) (f best)) xs best) others

-- the first that costs least of a list of plans
unfoldable pub first_of : (List ℕ → ℤ) → List (List ℕ) → List ℕ
first_of f [] = []
first_of f (xs ∷ others) = first_least f xs others

-- the plan of a day: of all plans within the bounds, cold to warm, the first that costs least
unfoldable pub plan : Option ℕ → List Terms → List ℕ
plan before ts = first_of (price before ts) (plans ts)
