-- The band curve's steps add up to its formula, and keep the laws.
use Rattle.std.specs.Prelude.{◌≡◌, ℕ, suc, ◌+◌, ◌-◌, ◌*◌, ◌<◌, ◌≤◌, pos, ◌+ℤ◌, ◌≤ℤ◌}
use Rattle.std.proofs.Common.{◌∙◌, ap, mul-suc, mul-zero, arith}
use Rattle.std.proofs.Math.Nat.{zero-sub}
use Rattle.std.proofs.lemmas.Int.{ints}
use Rattle.std.proofs.lemmas.Nat.{mul-le}
use Rattle.std.proofs.lemmas.Bool.Decides.{nat_tests}
use Rattle.curve.specs.Limits.{Within, top, step_limit, ground_limit, rate_limit}
use Rattle.curve.specs.Meaning.{cost}
use Rattle.curve.specs.Bands.{band_cost, band_ground, band_step}
use Rattle.curve.specs.Costs.{cost_is}

-- a rate for each of n levels, and for one more
rate_more : (c m n : ℕ) → m ≡ n + 1 → c * m ≡ c * n + c
rate_more c m n e = ap (λ (k : ℕ). c * k) {y = suc n} (omega arith) ∙ mul-suc c n

rate_same : (c m n : ℕ) → m ≡ n → c * m ≡ c * n
rate_same c m n e = ap (λ (k : ℕ). c * k) e

-- the steps add up to the formula
pub band_costs : (p q c d v : ℕ) → p ≤ q → cost (band_ground p c) (band_step p q c d) v ≡ band_cost p q c d v
unfolding band_cost
band_costs p q c d v apart = cost_is (band_ground p c) (band_step p q c d) (band_cost p q c d) begins grows v
  where
    begins : pos (c * (p - 0) + d * (0 - q)) ≡ pos (c * p)
    begins = ap pos (rw (zero-sub q, mul-zero d) (omega (arith, rate_same c (p - 0) p (omega arith))))

    grows : (v : ℕ) → band_cost p q c d (suc v) ≡ band_cost p q c d v +ℤ band_step p q c d v
    grows v =
        let below : v < p → c * (p - v) ≡ c * (p - suc v) + c = λ h. rate_more c (p - v) (p - suc v) (omega arith) in
        let above : q ≤ v → d * (suc v - q) ≡ d * (v - q) + d = λ h. rate_more d (suc v - q) (v - q) (omega arith) in
        let not_below : p ≤ v → c * (p - v) ≡ c * (p - suc v) = λ h. rate_same c (p - v) (p - suc v) (omega arith) in
        let not_above : v < q → d * (suc v - q) ≡ d * (v - q) = λ h. rate_same d (suc v - q) (v - q) (omega arith) in
        grind (arith, ints, nat_tests)

-- steps never fall
pub band_rising : (p q c d v : ℕ) → p ≤ q → band_step p q c d v ≤ℤ band_step p q c d (suc v)
band_rising p q c d v apart = grind (arith, ints, nat_tests)

-- steps keep within the largest rate
pub band_bounded : (p q c d v : ℕ) → c ≤ rate_limit → d ≤ rate_limit → Within step_limit (band_step p q c d v)
band_bounded p q c d v slow mild = (grind (arith, ints, nat_tests), grind (arith, ints, nat_tests))

-- the ground keeps within 900,000,000 times 1,023
pub band_grounded : (p c : ℕ) → p ≤ top → c ≤ rate_limit → Within ground_limit (band_ground p c)
band_grounded p c inside slow = let small = mul-le c p rate_limit top slow inside in (omega (arith, ints), omega (arith, ints))
