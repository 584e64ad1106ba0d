-- A day by its terms, its plans, what a plan costs, and which plans are cheapest.
use Rattle.std.specs.Prelude.{ℕ, ◌-◌, ◌*◌, ◌≤◌, List, [], ◌∷◌, ℤ, pos, ◌+ℤ◌, ◌≤ℤ◌, Some, None, Option}
use Rattle.curve.specs.Meaning.{cost}

-- the terms of a slot: what its curve means, its bounds, and its tolls for each level up and down
pub record Terms : Type 0 where
  pub ground : ℤ
  pub steps : ℕ → ℤ
  pub low : ℕ
  pub high : ℕ
  pub up : ℕ
  pub down : ℕ

-- a plan within the bounds has one level for each slot, from its low to its high
unfoldable pub Within : List Terms → List ℕ → Type 0
Within [] [] = Unit {0}
Within [] (x ∷ xs) = ⊥
Within (t ∷ ts) [] = ⊥
Within (t ∷ ts) (x ∷ xs) = (t.low ≤ x) × (x ≤ t.high) × Within ts xs

-- the toll for coming into a slot at level x: up times the rise or down times the fall from the level before, if there is one
unfoldable pub toll : Terms → Option ℕ → ℕ → ℤ
toll t None x = pos 0
toll t (Some before) x = pos (t.up * (x - before)) +ℤ pos (t.down * (before - x))

-- the price of a plan: the curves' costs and the tolls, coming from the level before, if there is one
unfoldable pub price : Option ℕ → List Terms → List ℕ → ℤ
price before [] xs = pos 0
price before (t ∷ ts) [] = pos 0
price before (t ∷ ts) (x ∷ xs) = cost t.ground t.steps x +ℤ toll t before x +ℤ price (Some x) ts xs

-- a cheapest plan: no plan within the bounds costs less
pub record Cheapest (before : Option ℕ) (ts : List Terms) (xs : List ℕ) : Type 0 where
  pub within : Within ts xs
  pub least : (ys : List ℕ) → Within ts ys → price before ts xs ≤ℤ price before ts ys
