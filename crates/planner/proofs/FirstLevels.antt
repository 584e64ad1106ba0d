-- The first level from low on at which a table reaches a bound.
use Rattle.std.proofs.Common.{◌≡◌, ℕ, zero, suc, ◌+◌, ◌-◌, ◌<◌, ◌≤◌, true, false, List, length, get_or, ℤ, pos, ◌≤ℤ◌, ◌<ℤ◌, refl, arith, int_lt}
use Rattle.std.specs.List.{between}
use Rattle.std.specs.List.Sorted.{IsPartitionedBy, IsPartitionPoint}
use Rattle.std.proofs.lemmas.Int.{ints}
use Rattle.std.proofs.lemmas.List.{get_or_default}
use Rattle.std.proofs.lemmas.List.Edits.{length-between, get_or-between}
use Rattle.optimum.proofs.Marks.{Rising}
use Rattle.optimum.proofs.Sweep.{first_from}
use Rattle.optimum.proofs.Thresholds.{First, first_from_first, first_order, MonotoneTo, monotone_le}

-- it is the same for two tables that agree between low and high
pub first_same : (f h : ℕ → ℤ) (bound : ℤ) (low n : ℕ) → ((v : ℕ) → low ≤ v → v < low + n → f v ≡ h v) → first_from f bound low n ≡ first_from h bound low n
unfolding first_from
first_same f h bound low zero same = refl
first_same f h bound low (suc n) same =
    rw (same low (omega arith) (omega arith), first_same f h bound (suc low) n (λ v from below. same v (omega arith) (omega arith)))

module _ (table : List ℤ) (bound : ℤ) (low high : ℕ) (order : low ≤ high) (inside : high ≤ length table) where
  -- a number of the part between low and high, as the table has it
  read : (k : ℕ) (d : ℤ) → k < high - low → get_or (between low high table) k d ≡ get_or table (low + k) (pos 0)
  read k d below = rw (get_or-between table low high k d (omega arith), get_or_default table (low + k) d (pos 0) (omega arith))

  -- where the table does not fall, no number under the bound comes behind one that reaches it
  pub parted : Rising low high table → IsPartitionedBy (λ z. int_lt z bound) (between low high table)
  parted rising i j d before below passes =
      let long = length-between table low high inside in
      let f : ℕ → ℤ = λ k. get_or table (low + k) (pos 0) in
      let monotone : MonotoneTo f (high - low) = λ k under. let next : low + suc k ≡ low + k + 1 = omega arith in rw next (rising (low + k) (omega arith) (omega arith)) in
      let up = monotone_le f (high - low) monotone i j before (omega arith) in
      let under = rw (read j d (omega arith)) at passes in
      rw (read i d (omega arith)) (grind (arith, ints))

  -- so the number of those that are under it leads to the first level that is not
  pub first_parted : (i : ℕ) → i ≤ length (between low high table) → IsPartitionPoint (λ z. int_lt z bound ≡ true) (λ z. int_lt z bound ≡ false) (between low high table) i →
      low + i ≡ first_from (λ v. get_or table v (pos 0)) bound low (high - low)
  first_parted i upto point =
      let long = length-between table low high inside in
      let f : ℕ → ℤ = λ v. get_or table v (pos 0) in
      let under : (v : ℕ) → low ≤ v → v < low + i → f v <ℤ bound =
      λ v from below.
      let place : v ≡ low + (v - low) = omega arith in
      let passes = rw (read (v - low) (pos 0) (omega arith), ← place) at (point.0 (v - low) (pos 0) (omega arith) (omega arith)) in
      grind (arith, ints)
      in
      let reached : low + i < high → bound ≤ℤ f (low + i) =
      λ more. let fails = rw (read i (pos 0) (omega arith)) at (point.1 i (pos 0) (omega arith) (omega arith)) in grind (arith, ints)
      in
      let here : First f bound low high (low + i) = record { from = omega arith; upto = omega arith; under = under; reached = reached } in
      let found = first_from_first f bound low (high - low) high (omega arith) in
      let same : bound ≤ℤ bound = omega (arith, ints) in
      let up = first_order same here found in
      let down = first_order same found here in
      omega arith
