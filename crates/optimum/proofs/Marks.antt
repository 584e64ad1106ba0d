-- The sweep as a program makes it: the thresholds of each slot are stored, and the levels are found from them alone.
use Rattle.std.proofs.Common.{◌≡◌, ℕ, ◌+◌, ◌<◌, ◌≤◌, List, [], ◌∷◌, get_or, ℤ, pos, neg_ℤ, ◌≤ℤ◌, refl, ap}
use Rattle.optimum.specs.Plans.{Terms}
use Rattle.optimum.proofs.Sweep.{first_level, held, walk, next_message, first_threshold, second_threshold, level_before}

-- a table holds a message at the levels from low up to high
abbrev pub Between : ℕ → ℕ → List ℤ → (ℕ → ℤ) → Type 0
Between low high table message = (v : ℕ) → low ≤ v → v < high → get_or table v (pos 0) ≡ message v

-- there its numbers are no larger than n
abbrev pub Small : ℕ → ℕ → ℕ → List ℤ → Type 0
Small n low high table = (v : ℕ) → low ≤ v → v < high → (neg_ℤ (pos n) ≤ℤ get_or table v (pos 0)) × (get_or table v (pos 0) ≤ℤ pos n)

-- there they do not fall
abbrev pub Rising : ℕ → ℕ → List ℤ → Type 0
Rising low high table = (v : ℕ) → low ≤ v → v + 1 < high → get_or table v (pos 0) ≤ℤ get_or table (v + 1) (pos 0)

-- a table holds the message to the first of some slots, where its bounds leave a step open
abbrev pub Holds : List Terms → List ℤ → (ℕ → ℤ) → Type 0
Holds [] table message = Unit {0}
Holds (t ∷ ts) table message = Between t.low t.high table message

-- the two thresholds of each slot, in their order
unfoldable pub marks : (ℕ → ℤ) → List Terms → List (List ℕ)
marks message [] = []
marks message (t ∷ ts) = (first_threshold message t ts ∷ (second_threshold message t ts ∷ [])) ∷ marks (next_message message t ts) ts

-- the level of a slot with two thresholds, where that of the next slot is v
abbrev pub held_between : List ℕ → ℕ → ℕ
held_between mark v = held (get_or mark 0 0) (get_or mark 1 0) v

-- the levels that such thresholds give, from the last slot back to the first
unfoldable pub walk_back : List (List ℕ) → List ℕ
walk_back [] = []
walk_back (mark ∷ more) = let xs : List ℕ = walk_back more in held_between mark (first_level xs) ∷ xs

pub walk_back_marks : (message : ℕ → ℤ) (ts : List Terms) → walk_back (marks message ts) ≡ walk message ts
unfolding marks walk_back walk
walk_back_marks message [] = refl
walk_back_marks message (t ∷ ts) = ap (λ (xs : List ℕ). level_before message t ts (first_level xs) ∷ xs) (walk_back_marks (next_message message t ts) ts)
