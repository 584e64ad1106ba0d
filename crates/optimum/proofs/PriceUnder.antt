-- What a plan costs under a message, slot by slot.
use Rattle.std.proofs.Common.{◌≡◌, ℕ, ◌<◌, ◌≤◌, List, [], ◌∷◌, ℤ, ◌+ℤ◌, ◌-ℤ◌, ◌≤ℤ◌, ◌<ℤ◌, Some, None, arith}
use Rattle.std.proofs.lemmas.Int.{ints}
use Rattle.curve.specs.Meaning.{climb, cost}
use Rattle.optimum.specs.Plans.{Terms, Within, price, toll}
use Rattle.optimum.specs.Theorems.{Convex, Open}
use Rattle.optimum.proofs.Climbs.{climb_sum}
use Rattle.optimum.proofs.Charges.{charge}
use Rattle.optimum.proofs.Tolls.{growth, charge_tolls, toll_charge}
use Rattle.optimum.proofs.Sweep.{joined, next_up, next_down, first_level, next_message, first_threshold, second_threshold, level_before}
use Rattle.optimum.proofs.Messages.{Monotone, Clamped, joined_monotone, passed_clamped}
use Rattle.optimum.proofs.Passing.{clamped_monotone, pass_least, pass_less, pass_same}

-- the growth of the tolls of the first of the slots
abbrev pub next_growth : List Terms → ℤ → ℤ
next_growth ts = growth (next_up ts) (next_down ts)

-- to come from level u adds the toll of the first slot
pub price_from : (u : ℕ) (ts : List Terms) (xs : List ℕ) → Within ts xs →
    price (Some u) ts xs ≡ charge (next_growth ts) (Some u) (first_level xs) +ℤ price None ts xs
unfolding price toll next_up next_down Within first_level
price_from u [] xs within = omega (arith, ints, charge_tolls 0 0 u (first_level xs))
price_from u (t ∷ ts) [] within = absurd within
price_from u (t ∷ ts) (x ∷ xs) within = omega (arith, ints, toll_charge t (Some u) x)

-- the cost of a plan under a message: the message's climb to its first level, and its price
unfoldable pub price_under : (ℕ → ℤ) → List Terms → List ℕ → ℤ
price_under message ts xs = climb message (first_level xs) +ℤ price None ts xs

-- the part of the first slot in it
price_under_first : (message : ℕ → ℤ) (t : Terms) (ts : List Terms) (x : ℕ) (xs : List ℕ) → Within ts xs →
    price_under message (t ∷ ts) (x ∷ xs)
    ≡ t.ground +ℤ climb (joined message t) x +ℤ charge (next_growth ts) (Some x) (first_level xs) +ℤ price None ts xs
unfolding price_under price toll cost joined first_level
price_under_first message t ts x xs within = omega (arith, ints, climb_sum message t.steps x, price_from x ts xs within)

-- what a slot adds, at least, to the cost of the slots behind it
unfoldable pub added : (ℕ → ℤ) → Terms → List Terms → ℤ
added message t ts =
    t.ground +ℤ climb (joined message t) (first_threshold message t ts) -ℤ climb (next_message message t ts) (first_threshold message t ts)

module _ (message : ℕ → ℤ) (t : Terms) (ts : List Terms) (monotone : Monotone message) (convex : Convex t) (is_open : Open t) where
  -- the message passed on is that of the slot, clamped to the next tolls
  pub next_clamped :
      Clamped (joined message t) (next_message message t ts) t.low t.high (next_up ts) (next_down ts) (first_threshold message t ts) (second_threshold message t ts)
  next_clamped = passed_clamped message t (next_up ts) (next_down ts) monotone convex is_open

  -- and does not fall either
  pub next_monotone : Monotone (next_message message t ts)
  next_monotone = clamped_monotone next_clamped (joined_monotone message t monotone convex)

  module _ (xs : List ℕ) (within : Within ts xs) where
    -- no level in front of a plan for the slots behind adds less
    pub price_under_least : (x : ℕ) → t.low ≤ x → x ≤ t.high →
        (added message t ts +ℤ price_under (next_message message t ts) ts xs) ≤ℤ price_under message (t ∷ ts) (x ∷ xs)
    unfolding price_under added
    price_under_least x from upto = omega (arith, ints, price_under_first message t ts x xs within, pass_least next_clamped x (first_level xs) from upto)

    -- a level below that of the walk adds more
    pub price_under_less : (x : ℕ) → t.low ≤ x → x ≤ t.high → x < level_before message t ts (first_level xs) →
        (added message t ts +ℤ price_under (next_message message t ts) ts xs) <ℤ price_under message (t ∷ ts) (x ∷ xs)
    unfolding price_under added
    price_under_less x from upto below =
        omega (arith, ints, price_under_first message t ts x xs within, pass_less next_clamped x (first_level xs) from upto below)

    -- that of the walk adds just that
    pub price_under_same :
        added message t ts +ℤ price_under (next_message message t ts) ts xs ≡ price_under message (t ∷ ts) (level_before message t ts (first_level xs) ∷ xs)
    unfolding price_under added
    price_under_same =
        omega (arith, ints, price_under_first message t ts (level_before message t ts (first_level xs)) xs within, pass_same next_clamped (first_level xs))
