-- A number of times an integer: it adds up, keeps the order, and keeps within bounds.
use Rattle.std.specs.Prelude.{◌≡◌, ℕ, zero, suc, ◌*◌, ℤ, pos, ◌+ℤ◌, ◌*ℤ◌, neg_ℤ, ◌≤ℤ◌, refl}
use Rattle.std.proofs.Common.{mul-zero, arith}
use Rattle.std.proofs.Math.IntN.{suc_ℤ-*ℤ, zero-*ℤ}
use Rattle.std.proofs.lemmas.Int.{ints}
use Rattle.curve.specs.Limits.{Within}

-- one time more
pub times_more : (w : ℕ) (z : ℤ) → pos (suc w) *ℤ z ≡ pos w *ℤ z +ℤ z
times_more w z = suc_ℤ-*ℤ (pos w) z

-- so many times a sum is the sum of so many times each
pub times_sum : (w : ℕ) (x y : ℤ) → pos w *ℤ (x +ℤ y) ≡ pos w *ℤ x +ℤ pos w *ℤ y
times_sum zero x y = rw (zero-*ℤ (x +ℤ y), zero-*ℤ x, zero-*ℤ y)
times_sum (suc w) x y =
    rw (times_more w (x +ℤ y), times_more w x, times_more w y, times_sum w x y)
    (sums (pos w *ℤ x) (pos w *ℤ y) x y)
  where
    sums : (a b c d : ℤ) → a +ℤ b +ℤ (c +ℤ d) ≡ a +ℤ c +ℤ (b +ℤ d)
    sums a b c d = omega (arith, ints)

-- so many times the larger is the larger
pub times_le : (w : ℕ) (x y : ℤ) → x ≤ℤ y → (pos w *ℤ x) ≤ℤ (pos w *ℤ y)
times_le zero x y h = rw (zero-*ℤ x, zero-*ℤ y) (omega (arith, ints))
times_le (suc w) x y h = rw (times_more w x, times_more w y) (sums (pos w *ℤ x) (pos w *ℤ y) x y (times_le w x y h) h)
  where
    sums : (a b c d : ℤ) → a ≤ℤ b → c ≤ℤ d → (a +ℤ c) ≤ℤ (b +ℤ d)
    sums a b c d p q = omega (arith, ints)

-- so many times a number below zero is below zero
times_negative : (w m : ℕ) → pos w *ℤ neg_ℤ (pos m) ≡ neg_ℤ (pos (w * m))
times_negative w zero = rw mul-zero
times_negative w (suc m) = refl

-- so many times a number of size m at most is of size w * m at most
pub times_within : (w : ℕ) (z : ℤ) (m : ℕ) → Within m z → Within (w * m) (pos w *ℤ z)
times_within w z m within = (rw (times_negative w m) at (times_le w (neg_ℤ (pos m)) z within.0), times_le w z (pos m) within.1)
