-- One slot of the sweep, as tables show it: one holds its message, one has its curve joined, and one holds the message to the next slot.
use Rattle.std.proofs.Common.{◌≡◌, ℕ, suc, ◌+◌, ◌-◌, ◌<◌, ◌≤◌, cond, ◌&&◌, ltb, leb, List, get_or, ℤ, pos, ◌+ℤ◌, neg_ℤ, ◌≤ℤ◌, true, arith}
use Rattle.std.specs.Int.{int_max, int_min}
use Rattle.std.proofs.lemmas.Int.{ints, clamps}
use Rattle.std.proofs.lemmas.Bool.Decides.{nat_tests}
use Rattle.curve.specs.Limits.{top, last_step}
use Rattle.optimum.specs.Plans.{Terms}
use Rattle.optimum.specs.Theorems.{Convex}
use Rattle.optimum.proofs.Marks.{Between, Rising}
use Rattle.optimum.proofs.Sweep.{joined, first_from, threshold, passed}
use Rattle.slots.specs.SlotTerms.{slot_terms}
use Rattle.slots.specs.Slots.{proper}
use Rattle.slots.specs.declared.slot.Slot.{Slot}
use Rattle.planner.proofs.Convexity.{slot_convex}
use Rattle.planner.proofs.FirstLevels.{first_same}

-- the steps of a slot's curve are added to a table between the slot's bounds
abbrev pub Joined : Terms → List ℤ → List ℤ → Type 0
Joined t before table =
    (v : ℕ) → v ≤ last_step →
    get_or table v (pos 0) ≡ cond (leb t.low v && ltb v t.high) (get_or before v (pos 0) +ℤ t.steps v) (get_or before v (pos 0))

-- a table is held between the tolls of the next slot, where the bounds of that slot leave a step open
abbrev pub Passed : Terms → Terms → List ℤ → List ℤ → Type 0
Passed t next table after =
    (v : ℕ) → next.low ≤ v → v < next.high →
    get_or after v (pos 0) ≡ cond (ltb v t.low) (neg_ℤ (pos next.down)) (cond (ltb v t.high) (int_max (neg_ℤ (pos next.down)) (int_min (get_or table v (pos 0)) (pos next.up))) (pos next.up))

-- the lesser of two is the same in either order
minZ_swap : (x y : ℤ) → int_min x y ≡ int_min y x
minZ_swap x y = omega (arith, ints, clamps)

module _ (t : Terms) (before table : List ℤ) (joint : Joined t before table) (order : t.low ≤ t.high) (within : t.high ≤ top) where
  -- where neither the table before nor the steps fall, the table does not
  pub joined_rising : Convex t → Rising t.low t.high before → Rising t.low t.high table
  joined_rising convex rising v from below =
      let next : suc v ≡ v + 1 = omega arith in
      let step = rw next at (convex v (omega arith)) in
      let was = rising v from below in
      let at = joint v (omega arith) in
      let above = joint (v + 1) (omega arith) in
      grind (arith, ints, nat_tests)

  module _ (message : ℕ → ℤ) (holds : Between t.low t.high before message) where
    -- between the bounds the table has message and curve together
    pub joined_at : Between t.low t.high table (joined message t)
    unfolding joined
    joined_at v from below =
        let is = joint v (omega arith) in
        let was = holds v from below in
        grind (arith, nat_tests)

    -- the first level at which the table reaches a bound is the slot's threshold
    pub threshold_found : (bound : ℤ) → first_from (λ v. get_or table v (pos 0)) bound t.low (t.high - t.low) ≡ threshold message t bound
    unfolding threshold
    threshold_found bound = first_same (λ v. get_or table v (pos 0)) (joined message t) bound t.low (t.high - t.low) (λ v from below. joined_at v from (omega arith))

-- so it does not with the curve of a proper slot, whose steps never fall
pub slot_rising :
    {C : Type 0} (ground : C → ℤ) (steps : C → ℕ → ℤ) → ((c : C) (v : ℕ) → v < last_step → steps c v ≤ℤ steps c (suc v)) →
    (s : Slot C) → proper s ≡ true → (before table : List ℤ) → Joined (slot_terms ground steps s) before table → Rising s.low s.high before → Rising s.low s.high table
slot_rising ground steps rising s good before table joint =
    joined_rising (slot_terms ground steps s) before table joint (grind (arith, nat_tests)) (grind (arith, nat_tests)) (slot_convex ground steps rising s good)

-- what is passed on is the message to the next slot
pub passed_held :
    (t next : Terms) (table after : List ℤ) (message : ℕ → ℤ) → Between t.low t.high table (joined message t) → Passed t next table after →
    Between next.low next.high after (passed message t next.up next.down)
unfolding passed
passed_held t next table after message holds on v from below = let is = on v from below in grind (arith, nat_tests, holds, minZ_swap)
