-- Sums of two curves: holding keeps the order and leaves alone what fits, and two steps decide whether all fit.
use Rattle.std.specs.Prelude.{◌≡◌, ℕ, suc, ◌<◌, ◌≤◌, Bool, true, ◌&&◌, ℤ, pos, ◌+ℤ◌, neg_ℤ, ◌≤ℤ◌, Decides, int_le, refl}
use Rattle.std.proofs.Common.{arith, lit<}
use Rattle.std.proofs.lemmas.Int.{ints, clamps}
use Rattle.std.proofs.lemmas.Bool.Decides.{nat_tests, same_from_decides, Decides-below_and}
use Rattle.curve.specs.Limits.{top, last_step, step_limit, ground_limit, held_by}
use Rattle.curve.specs.Pairs.{hold, all_below, step_fits, pair_step, sums_fit}
use Rattle.curve.specs.Tests.{and_left, and_right, both, le_of_test, held_of_bounds}
use Rattle.curve.specs.Costs.{rising_between}

-- holding keeps the order
pub hold_le : (limit : ℕ) (x y : ℤ) → x ≤ℤ y → hold limit x ≤ℤ hold limit y
hold_le limit x y h = omega (arith, ints, clamps)

-- what fits is left alone
pub hold_same : (limit : ℕ) (z : ℤ) → held_by limit z ≡ true → hold limit z ≡ z
hold_same limit z h = grind (arith, ints, clamps, nat_tests)

-- steps that never fall
abbrev pub Rising : (ℕ → ℤ) → Type 0
Rising s = (v : ℕ) → v < last_step → s v ≤ℤ s (suc v)

-- the test of all steps passes exactly if each step fits
all_fit : (s t : ℕ → ℤ) → Decides (all_below top (step_fits s t)) ((v : ℕ) → v < top → step_fits s t v ≡ true)
unfolding all_below
all_fit s t = Decides-below_and (step_fits s t) (λ v. step_fits s t v ≡ true) (λ n. all_below n (step_fits s t)) (λ v. (λ e. e, λ e. e)) refl (λ n. refl) top

-- the coldest step is not too far below zero
abbrev pub low_fits : (ℕ → ℤ) → (ℕ → ℤ) → Bool
low_fits s t = int_le (neg_ℤ (pos step_limit)) (s 0 +ℤ t 0)

-- the warmest step is not too far above zero
abbrev pub high_fits : (ℕ → ℤ) → (ℕ → ℤ) → Bool
high_fits s t = int_le (s last_step +ℤ t last_step) (pos step_limit)

-- where both ends fit, each step does
between_ends : (s t : ℕ → ℤ) → Rising s → Rising t → (low_fits s t && high_fits s t) ≡ true → (v : ℕ) → v < top → step_fits s t v ≡ true
between_ends s t rs rt e v h =
    let s_low = rising_between s rs 0 v (omega arith) (omega arith) in
    let s_high = rising_between s rs v last_step (omega arith) (omega arith) in
    let t_low = rising_between t rt 0 v (omega arith) (omega arith) in
    let t_high = rising_between t rt v last_step (omega arith) (omega arith) in
    let low = le_of_test (neg_ℤ (pos step_limit)) (s 0 +ℤ t 0) (and_left (low_fits s t) (high_fits s t) e) in
    let high = le_of_test (s last_step +ℤ t last_step) (pos step_limit) (and_right (low_fits s t) (high_fits s t) e) in
    held_of_bounds step_limit (s v +ℤ t v) (omega (arith, ints), omega (arith, ints))

-- where each step fits, both ends do
ends_of_all : (s t : ℕ → ℤ) → ((v : ℕ) → v < top → step_fits s t v ≡ true) → (low_fits s t && high_fits s t) ≡ true
ends_of_all s t fits = both (and_left (low_fits s t) _ (fits 0 (lit< tt))) (and_right _ (high_fits s t) (fits last_step (lit< tt)))

-- the coldest and the warmest step decide
pub two_steps_decide : (s t : ℕ → ℤ) → Rising s → Rising t → all_below top (step_fits s t) ≡ (low_fits s t && high_fits s t)
two_steps_decide s t rs rt = same_from_decides _ _ (all_fit s t) (between_ends s t rs rt, ends_of_all s t)

-- where all steps fit, each is the exact sum
pub exact_steps : (s t : ℕ → ℤ) → all_below top (step_fits s t) ≡ true → (v : ℕ) → v ≤ last_step → pair_step s t v ≡ s v +ℤ t v
exact_steps s t e v h = hold_same step_limit (s v +ℤ t v) ((all_fit s t).0 e v (omega arith))

-- the ground and these two steps decide whether all sums fit
pub ends_decide : (g h : ℤ) (s t : ℕ → ℤ) → Rising s → Rising t → sums_fit g s h t ≡ (held_by ground_limit (g +ℤ h) && (low_fits s t && high_fits s t))
ends_decide g h s t rs rt = rw (two_steps_decide s t rs rt)
