-- Sums of growths: of constants, of negated growths and of sums, and compared between two levels.
use Rattle.std.proofs.Common.{◌≡◌, ℕ, zero, suc, ◌*◌, ◌<◌, ◌≤◌, ℤ, pos, ◌+ℤ◌, neg_ℤ, ◌≤ℤ◌, ◌<ℤ◌, refl, arith}
use native.Mathlib.Decide.{le_ind}
use Rattle.std.proofs.lemmas.Int.{ints}
use Rattle.curve.specs.Meaning.{climb}

-- the climb of a constant is a product
pub climb_constant : (c n : ℕ) → climb (λ _. pos c) n ≡ pos (c * n)
unfolding climb
climb_constant c zero = omega (arith, ints)
climb_constant c (suc n) = omega (arith, ints, climb_constant c n)

-- the climb of a negated growth is the negated climb
pub climb_negated : (f : ℕ → ℤ) (n : ℕ) → climb (λ v. neg_ℤ (f v)) n ≡ neg_ℤ (climb f n)
unfolding climb
climb_negated f zero = refl
climb_negated f (suc n) = omega (arith, ints, climb_negated f n)

-- the climb of a sum is the sum of the climbs
pub climb_sum : (f g : ℕ → ℤ) (n : ℕ) → climb (λ v. f v +ℤ g v) n ≡ climb f n +ℤ climb g n
unfolding climb
climb_sum f g zero = refl
climb_sum f g (suc n) = omega (arith, ints, climb_sum f g n)

-- f grows no more than g at each level from u to below w
abbrev pub Below : (ℕ → ℤ) → (ℕ → ℤ) → ℕ → ℕ → Type 0
Below f g u w = (v : ℕ) → u ≤ v → v < w → f v ≤ℤ g v

-- then f climbs no more than g from u to w
pub climb_le : (f g : ℕ → ℤ) (u w : ℕ) → u ≤ w → Below f g u w → (climb f w +ℤ climb g u) ≤ℤ (climb g w +ℤ climb f u)
unfolding climb
climb_le f g u w =
    le_ind
    (λ n. Below f g u n → (climb f n +ℤ climb g u) ≤ℤ (climb g n +ℤ climb f u))
    (λ _. omega (arith, ints))
    (λ n from so_far below. omega (arith, ints, below n from (omega arith), so_far (λ v a b. below v a (omega arith))))
    w

-- and less, where it grows less at u
pub climb_lt : (f g : ℕ → ℤ) (u w : ℕ) → u < w → f u <ℤ g u → Below f g u w → (climb f w +ℤ climb g u) <ℤ (climb g w +ℤ climb f u)
unfolding climb
climb_lt f g u w up less below = omega (arith, ints, climb_le f g (suc u) w up (λ v a b. below v (omega arith) b))

-- and as much, where both grow alike
pub climb_same : (f g : ℕ → ℤ) (u w : ℕ) → u ≤ w → ((v : ℕ) → u ≤ v → v < w → f v ≡ g v) → climb f w +ℤ climb g u ≡ climb g w +ℤ climb f u
climb_same f g u w up alike =
    let no_more = climb_le f g u w up (λ v a b. omega (arith, ints, alike v a b)) in
    let no_less = climb_le g f u w up (λ v a b. omega (arith, ints, alike v a b)) in
    omega (arith, ints)
