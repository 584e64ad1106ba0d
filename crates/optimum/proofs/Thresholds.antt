-- The thresholds of a slot.
use Rattle.std.proofs.Common.{◌≡◌, ℕ, zero, suc, ◌+◌, ◌-◌, ◌<◌, ◌≤◌, Bool, true, false, cond, ℤ, ◌≤ℤ◌, ◌<ℤ◌, refl, arith}
use native.Mathlib.Decide.{le_ind, dec_lt}
use lib.Signed.{le_z}
use Rattle.std.proofs.lemmas.Int.{ints}
use Rattle.optimum.specs.Plans.{Terms}
use Rattle.optimum.specs.Theorems.{Open}
use Rattle.optimum.proofs.Sweep.{first_from, joined, threshold}

-- `at` is the first level from low on where f is at least the bound, or else it is high
pub record First (f : ℕ → ℤ) (bound : ℤ) (low high at : ℕ) : Type 0 where
  pub from : low ≤ at
  pub upto : at ≤ high
  pub under : (v : ℕ) → low ≤ v → v < at → f v <ℤ bound
  pub reached : at < high → bound ≤ℤ f at

-- it is low, where f reaches the bound there, and also where no level is left
first_here : (f : ℕ → ℤ) (bound : ℤ) (low high : ℕ) → low ≤ high → (low < high → bound ≤ℤ f low) → First f bound low high low
first_here f bound low high up reached =
    record { from = omega arith; upto = up; under = λ v a b. absurd (omega arith); reached = reached }

-- else it is the first from the next level on
first_later : {f : ℕ → ℤ} {bound : ℤ} {low high at : ℕ} → f low <ℤ bound → First f bound (suc low) high at → First f bound low high at
first_later {f} {bound} {low} {high} {at} less later = record { from = omega arith; upto = later.upto; under = under; reached = later.reached }
  where
    under : (v : ℕ) → low ≤ v → v < at → f v <ℤ bound
    under v a b = elim (dec_lt low v) [ yes h ↦ later.under v h b | no h ↦ let here : v ≡ low = omega arith in rw here less ]

-- the search for the first level finds it
pub first_from_first : (f : ℕ → ℤ) (bound : ℤ) (low n high : ℕ) → low + n ≡ high → First f bound low high (first_from f bound low n)
unfolding first_from
first_from_first f bound low zero high e = first_here f bound low high (omega arith) (λ more. absurd (omega arith))
first_from_first f bound low (suc n) high e = go (le_z bound (f low)) refl (first_from_first f bound (suc low) n high (omega arith))
  where
    go :
        (test : Bool) → le_z bound (f low) ≡ test → First f bound (suc low) high (first_from f bound (suc low) n) →
        First f bound low high (cond test low (first_from f bound (suc low) n))
    go true test later = first_here f bound low high (omega arith) (λ _. omega (arith, ints))
    go false test later = first_later (omega (arith, ints)) later

-- a threshold of a slot is the first level where message and curve together reach the bound
pub threshold_first : (message : ℕ → ℤ) (t : Terms) (bound : ℤ) → Open t →
    First (joined message t) bound t.low t.high (threshold message t bound)
unfolding threshold
threshold_first message t bound is_open =
    first_from_first (joined message t) bound t.low (t.high - t.low) t.high (omega arith)

-- a higher bound is reached no earlier
pub first_order : {f : ℕ → ℤ} {bound higher : ℤ} {low high a b : ℕ} → bound ≤ℤ higher → First f bound low high a → First f higher low high b → a ≤ b
first_order {a = a} {b} more first second =
    elim (dec_lt b a) [
      | yes h ↦ absurd (omega (arith, ints, first.under b second.from h, second.reached (omega arith)))
      | no h ↦ omega arith
    ]

-- f does not fall as the level rises, up to high
abbrev pub MonotoneTo : (ℕ → ℤ) → ℕ → Type 0
MonotoneTo f high = (v : ℕ) → suc v < high → f v ≤ℤ f (suc v)

-- then it is nowhere less than at a lower level
pub monotone_le : (f : ℕ → ℤ) (high : ℕ) → MonotoneTo f high → (u v : ℕ) → u ≤ v → v < high → f u ≤ℤ f v
monotone_le f high monotone u v =
    le_ind
    (λ w. w < high → f u ≤ℤ f w)
    (λ _. omega (arith, ints))
    (λ w from so_far below. omega (arith, ints, monotone w below, so_far (omega arith)))
    v

-- from the first level on, what does not fall stays at the bound or above it
pub first_over : {f : ℕ → ℤ} {bound : ℤ} {low high at : ℕ} → MonotoneTo f high → First f bound low high at →
    (v : ℕ) → at ≤ v → v < high → bound ≤ℤ f v
first_over {f} {high = high} {at} monotone first v up below =
    omega (arith, ints, first.reached (omega arith), monotone_le f high monotone at v up below)
