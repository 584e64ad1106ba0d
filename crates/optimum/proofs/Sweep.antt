-- The sweep: a message goes from the first slot to the last, and the levels are found on the way back.
-- A message is the growth of the least cost of all earlier slots, seen from a level of the slot it comes to.
use Rattle.std.proofs.Common.{ℕ, zero, suc, ◌-◌, min, max, cond, ltb, List, [], ◌∷◌, ℤ, pos, ◌+ℤ◌, neg_ℤ, Some, None, Option}
use lib.Signed.{le_z}
use Rattle.std.specs.Int.{int_max, int_min}
use Rattle.optimum.specs.Plans.{Terms}
use Rattle.optimum.proofs.Charges.{growth_from}
use Rattle.optimum.proofs.Tolls.{growth}

-- the growth of the message and the curve of a slot together
unfoldable pub joined : (ℕ → ℤ) → Terms → ℕ → ℤ
joined message t v = message v +ℤ t.steps v

-- the first of n levels from low on at which f is at least the bound, and the level behind them if there is none
unfoldable pub first_from : (ℕ → ℤ) → ℤ → ℕ → ℕ → ℕ
first_from f bound low zero = low
first_from f bound low (suc n) = cond (le_z bound (f low)) low (first_from f bound (suc low) n)

-- the first level of a slot at which message and curve together grow by the bound or more
unfoldable pub threshold : (ℕ → ℤ) → Terms → ℤ → ℕ
threshold message t bound = first_from (joined message t) bound t.low (t.high - t.low)

-- the message that a slot passes on: message and curve together, held between the tolls of the next slot
unfoldable pub passed : (ℕ → ℤ) → Terms → ℕ → ℕ → ℕ → ℤ
passed message t up down v =
    cond
    (ltb v t.low)
    (neg_ℤ (pos down))
    (cond (ltb v t.high) (int_max (neg_ℤ (pos down)) (int_min (pos up) (joined message t v))) (pos up))

-- the tolls of the first of the slots, and 0 where there is none
unfoldable pub next_up : List Terms → ℕ
next_up [] = 0
next_up (t ∷ ts) = t.up

unfoldable pub next_down : List Terms → ℕ
next_down [] = 0
next_down (t ∷ ts) = t.down

-- the first level of a plan, and 0 where there is none
unfoldable pub first_level : List ℕ → ℕ
first_level [] = 0
first_level (x ∷ xs) = x

-- a level held between two others
unfoldable pub held : ℕ → ℕ → ℕ → ℕ
held least most v = max least (min most v)

-- the message from a slot to the slots behind it
abbrev pub next_message : (ℕ → ℤ) → Terms → List Terms → ℕ → ℤ
next_message message t ts = passed message t (next_up ts) (next_down ts)

-- the two thresholds of a slot, under the tolls of the slots behind it
abbrev pub first_threshold : (ℕ → ℤ) → Terms → List Terms → ℕ
first_threshold message t ts = threshold message t (neg_ℤ (pos (next_down ts)))

abbrev pub second_threshold : (ℕ → ℤ) → Terms → List Terms → ℕ
second_threshold message t ts = threshold message t (pos (next_up ts))

-- the level of a slot, where that of the next slot is v
abbrev pub level_before : (ℕ → ℤ) → Terms → List Terms → ℕ → ℕ
level_before message t ts v = held (first_threshold message t ts) (second_threshold message t ts) v

-- the levels, from the last slot back to the first: each is that of the next slot, held between the slot's two thresholds
unfoldable pub walk : (ℕ → ℤ) → List Terms → List ℕ
walk message [] = []
walk message (t ∷ ts) = let xs : List ℕ = walk (next_message message t ts) ts in level_before message t ts (first_level xs) ∷ xs

-- the message to the first slot: nothing where there is no level before it, else its toll
unfoldable pub first_message : Option ℕ → List Terms → ℕ → ℤ
first_message None ts v = pos 0
first_message (Some u) ts v = growth_from (growth (next_up ts) (next_down ts)) u v
