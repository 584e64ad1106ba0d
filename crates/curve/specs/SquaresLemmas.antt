-- The square curve's steps add up to its formula, and keep the laws.
use Rattle.std.specs.Prelude.{◌≡◌, ℕ, zero, suc, ◌*◌, ◌≤◌, ℤ, pos, ◌+ℤ◌, ◌-ℤ◌, ◌*ℤ◌, neg_ℤ, ◌≤ℤ◌, refl}
use Rattle.std.proofs.Common.{sym, ◌∙◌, ap, arith}
use Rattle.std.proofs.Math.IntN.{suc_ℤ, suc_ℤ-*ℤ, *ℤ_comm, +ℤ_one}
use Rattle.std.proofs.lemmas.Int.{ints}
use Rattle.std.proofs.lemmas.Nat.{mul-le}
use Rattle.curve.specs.Limits.{Within, top, last_step, step_limit, ground_limit, weight_limit}
use Rattle.curve.specs.Meaning.{cost}
use Rattle.curve.specs.Squares.{square_cost, square_ground, square_step}
use Rattle.curve.specs.Costs.{cost_is}
use Rattle.curve.specs.Products.{times_sum, times_le, times_within}

-- the square of the next number
square_next : (d : ℤ) → (d +ℤ pos 1) *ℤ (d +ℤ pos 1) ≡ d *ℤ d +ℤ (pos 2 *ℤ d +ℤ pos 1)
square_next d =
    rw (+ℤ_one d)
    (suc_ℤ-*ℤ d (suc_ℤ d) ∙ ap (λ (z : ℤ). z +ℤ suc_ℤ d) (*ℤ_comm d (suc_ℤ d) ∙ suc_ℤ-*ℤ d d) ∙ sums (d *ℤ d) d (suc_ℤ d) (sym (+ℤ_one d)))
  where
    sums : (s d e : ℤ) → e ≡ d +ℤ pos 1 → s +ℤ d +ℤ e ≡ s +ℤ (pos 2 *ℤ d +ℤ pos 1)
    sums s d e next = omega (arith, ints)

square_of_negative : (a : ℕ) → neg_ℤ (pos a) *ℤ neg_ℤ (pos a) ≡ pos (a * a)
square_of_negative zero = refl
square_of_negative (suc a) = refl

-- the steps add up to the formula
pub square_costs : (w a v : ℕ) → cost (square_ground w a) (square_step w a) v ≡ square_cost w a v
unfolding square_cost square_ground square_step
square_costs w a = cost_is (square_ground w a) (square_step w a) (square_cost w a) begins grows
  where
    begins : pos w *ℤ ((pos 0 -ℤ pos a) *ℤ (pos 0 -ℤ pos a)) ≡ pos (w * (a * a))
    begins =
        let e : pos 0 -ℤ pos a ≡ neg_ℤ (pos a) = omega (arith, ints) in
        ap (λ (z : ℤ). pos w *ℤ (z *ℤ z)) e ∙ ap (λ (z : ℤ). pos w *ℤ z) (square_of_negative a)

    grows : (v : ℕ) → pos w *ℤ ((pos (suc v) -ℤ pos a) *ℤ (pos (suc v) -ℤ pos a)) ≡ pos w *ℤ ((pos v -ℤ pos a) *ℤ (pos v -ℤ pos a)) +ℤ pos w *ℤ (pos 2 *ℤ (pos v -ℤ pos a) +ℤ pos 1)
    grows v =
        let d : ℤ = pos v -ℤ pos a in
        let e : pos (suc v) -ℤ pos a ≡ pos v -ℤ pos a +ℤ pos 1 = omega (arith, ints) in
        ap (λ (z : ℤ). pos w *ℤ (z *ℤ z)) e ∙ ap (λ (z : ℤ). pos w *ℤ z) (square_next d) ∙ times_sum w (d *ℤ d) (pos 2 *ℤ d +ℤ pos 1)

-- steps never fall
pub square_rising : (w a v : ℕ) → square_step w a v ≤ℤ square_step w a (suc v)
unfolding square_step
square_rising w a v = times_le w (pos 2 *ℤ (pos v -ℤ pos a) +ℤ pos 1) (pos 2 *ℤ (pos (suc v) -ℤ pos a) +ℤ pos 1) (omega (arith, ints))

-- steps keep within 400,000 times 2,047
pub square_bounded : (w a v : ℕ) → w ≤ weight_limit → a ≤ top → v ≤ last_step → Within step_limit (square_step w a v)
unfolding square_step
square_bounded w a v light aimed within =
    let b = times_within w (pos 2 *ℤ (pos v -ℤ pos a) +ℤ pos 1) 2047 (omega (arith, ints), omega (arith, ints)) in
    (omega (arith, ints), omega (arith, ints))

-- the ground keeps within 400,000 times the square of 1,023
pub square_grounded : (w a : ℕ) → w ≤ weight_limit → a ≤ top → Within ground_limit (square_ground w a)
unfolding square_ground
square_grounded w a light aimed =
    let b = mul-le w (a * a) weight_limit (top * top) light (mul-le a a top top aimed aimed) in
    (omega (arith, ints), omega (arith, ints))
