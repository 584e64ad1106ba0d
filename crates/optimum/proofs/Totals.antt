-- Sums: the total of a growth over the whole numbers, and the lines, which are the totals of a constant growth.
use Rattle.std.proofs.Common.{◌≡◌, ℕ, zero, suc, ℤ, pos, negsuc, ◌+ℤ◌, ◌-ℤ◌, neg_ℤ, sym, refl, ap, ◌∙◌, arith}
use lib.IntN.{suc_ℤ, +ℤ_idr, +ℤ-suc_ℤ, -ℤ-+ℤ_cancel}
use Rattle.std.proofs.lemmas.Int.{ints}
use Rattle.curve.specs.Meaning.{climb}
use Rattle.optimum.proofs.Climbs.{climb_sum, climb_negated}

-- the sum from 0 to d of the growth g, where g k is the growth from k to k + 1
unfoldable pub total : (ℤ → ℤ) → ℤ → ℤ
unfolding climb
total g (pos n) = climb (λ k. g (pos k)) n
total g (negsuc n) = neg_ℤ (climb (λ k. g (negsuc k)) (suc n))

-- a total grows by its growth
pub total_suc : (g : ℤ → ℤ) (k : ℤ) → total g (suc_ℤ k) ≡ total g k +ℤ g k
unfolding total climb
total_suc g (pos n) = refl
total_suc g (negsuc zero) = omega (arith, ints)
total_suc g (negsuc (suc n)) = omega (arith, ints)

-- the line of slope m through 0
abbrev pub line : ℤ → ℤ → ℤ
line m = total (λ k. m)

-- a line at a sum
line_add : (m k : ℤ) (n : ℕ) → line m (k +ℤ pos n) ≡ line m k +ℤ line m (pos n)
unfolding total climb
line_add m k zero = ap (line m) (+ℤ_idr k) ∙ sym (+ℤ_idr (line m k))
line_add m k (suc n) = let rest = line_add m k n in rw (+ℤ-suc_ℤ k (pos n), total_suc) (omega (arith, ints))

-- a line at a difference
pub line_sub : (m k : ℤ) (n : ℕ) → line m (k -ℤ pos n) ≡ line m k -ℤ line m (pos n)
line_sub m k n =
    let sum : line m k ≡ line m (k -ℤ pos n) +ℤ line m (pos n) = rw -ℤ-+ℤ_cancel at (line_add m (k -ℤ pos n) n) in
    omega (arith, ints)

-- a line whose slope is a difference
pub line_slope : (a b : ℤ) (n : ℕ) → line (a -ℤ b) (pos n) ≡ line a (pos n) -ℤ line b (pos n)
unfolding total climb
line_slope a b n = climb_sum (λ _. a) (λ _. neg_ℤ b) n ∙ ap (λ (z : ℤ). climb (λ _. a) n +ℤ z) (climb_negated (λ _. b) n)

-- a line of slope 0
pub line_flat : (n : ℕ) → line (pos 0) (pos n) ≡ pos 0
line_flat n = let none = line_slope (pos 0) (pos 0) n in omega (arith, ints)
