-- The message that a slot passes on.
use Rattle.std.proofs.Common.{◌≡◌, ℕ, suc, ◌<◌, ◌≤◌, ℤ, pos, neg_ℤ, ◌≤ℤ◌, ◌<ℤ◌, arith}
use native.Mathlib.Decide.{dec_lt}
use Rattle.std.specs.Int.{int_max, int_min}
use Rattle.std.proofs.lemmas.Int.{ints, clamps}
use Rattle.std.proofs.lemmas.Bool.Decides.{nat_tests}
use Rattle.optimum.specs.Plans.{Terms}
use Rattle.optimum.specs.Theorems.{Convex, Open}
use Rattle.optimum.proofs.Sweep.{joined, threshold, passed}
use Rattle.optimum.proofs.Thresholds.{MonotoneTo, first_over, first_order, threshold_first}

-- f does not fall as the level rises
abbrev pub Monotone : (ℕ → ℤ) → Type 0
Monotone f = (v : ℕ) → f v ≤ℤ f (suc v)

-- N is S clamped to two tolls: raised to minus the down toll below the first threshold, lowered to the up toll from the second on,
-- and left as it is between them
pub record Clamped (S N : ℕ → ℤ) (low high up down first second : ℕ) : Type 0 where
  pub from : low ≤ first
  pub order : first ≤ second
  pub upto : second ≤ high
  pub raised : (v : ℕ) → low ≤ v → v < first → S v <ℤ N v
  pub same : (v : ℕ) → first ≤ v → v < second → N v ≡ S v
  pub lowered : (v : ℕ) → second ≤ v → v < high → N v ≤ℤ S v
  pub at_down : (v : ℕ) → v < first → N v ≡ neg_ℤ (pos down)
  pub under_up : (v : ℕ) → first ≤ v → v < second → N v <ℤ pos up
  pub at_up : (v : ℕ) → second ≤ v → N v ≡ pos up
  pub tolls : (v : ℕ) → (neg_ℤ (pos down) ≤ℤ N v) × (N v ≤ℤ pos up)

-- message and curve together do not fall up to the slot's high level
pub joined_monotone : (message : ℕ → ℤ) (t : Terms) → Monotone message → Convex t → MonotoneTo (joined message t) t.high
unfolding joined
joined_monotone message t monotone convex v below = omega (arith, ints, monotone v, convex v below)

module _ (message : ℕ → ℤ) (t : Terms) (up down : ℕ) where
  -- below the low level the message passed on is minus the down toll
  passed_below : (v : ℕ) → v < t.low → passed message t up down v ≡ neg_ℤ (pos down)
  unfolding passed
  passed_below v below = grind (arith, nat_tests)

  -- from the high level on it is the up toll
  passed_above : (v : ℕ) → t.low ≤ v → t.high ≤ v → passed message t up down v ≡ pos up
  unfolding passed
  passed_above v from above = grind (arith, nat_tests)

  -- between, it is message and curve together held between the tolls
  passed_between : (v : ℕ) → t.low ≤ v → v < t.high →
      passed message t up down v ≡ int_max (neg_ℤ (pos down)) (int_min (pos up) (joined message t v))
  unfolding passed
  passed_between v from below = grind (arith, nat_tests)

  -- the message passed on lies within the tolls
  pub passed_tolls : (v : ℕ) → (neg_ℤ (pos down) ≤ℤ passed message t up down v) × (passed message t up down v ≤ℤ pos up)
  unfolding passed
  passed_tolls v = grind (arith, ints, clamps, nat_tests)

  -- it is message and curve together clamped to the tolls, and the thresholds are where the clamping ends and begins
  pub passed_clamped : Monotone message → Convex t → Open t →
      Clamped (joined message t) (passed message t up down) t.low t.high up down (threshold message t (neg_ℤ (pos down))) (threshold message t (pos up))
  passed_clamped monotone convex is_open =
      let rising = joined_monotone message t monotone convex in
      let first = threshold_first message t (neg_ℤ (pos down)) is_open in
      let second = threshold_first message t (pos up) is_open in
      let over_first = first_over rising first in
      let over_second = first_over rising second in
      let order = first_order (omega (arith, ints)) first second in
      record {
        from = first.from;
        order = order;
        upto = second.upto;
        raised = λ v a b. omega (arith, ints, clamps, passed_between v a (omega arith), first.under v a b);
        same = λ v a b. omega (arith, ints, clamps, passed_between v (omega arith) (omega arith), over_first v a (omega arith), second.under v (omega arith) b);
        lowered = λ v a b. omega (arith, ints, clamps, passed_between v (omega arith) b, over_second v a b);
        at_down =
            λ v b.
            elim (dec_lt v t.low) [
              | yes h ↦ passed_below v h
              | no h ↦ omega (arith, ints, clamps, passed_between v (omega arith) (omega arith), first.under v (omega arith) b)
            ];
        under_up =
            λ v a b. omega (arith, ints, clamps, passed_between v (omega arith) (omega arith), over_first v a (omega arith), second.under v (omega arith) b);
        at_up =
            λ v a.
            elim (dec_lt v t.high) [
              | yes h ↦ omega (arith, ints, clamps, passed_between v (omega arith) h, over_second v a h)
              | no h ↦ passed_above v (omega arith) (omega arith)
            ];
        tolls = passed_tolls;
      }
