-- The subgradients of a convex function. The function is the total of its growth, and less the line of slope m it is least exactly where m is a subgradient.
use Rattle.std.proofs.Common.{◌≡◌, ℕ, zero, suc, ℤ, pos, negsuc, ◌+ℤ◌, ◌-ℤ◌, ◌≤ℤ◌, refl, ◌∙◌, arith}
use lib.IntN.{suc_ℤ, pred_ℤ, +ℤ_one, suc-pred}
use lib.Signed.{≤ℤ_refl}
use Rattle.std.proofs.lemmas.Int.{ints}
use Rattle.optimum.proofs.Totals.{total, total_suc, line}
use Rattle.optimum.proofs.LowerBounds.{LowerBound}

-- the points P are an interval, and the growth g does not fall on it
pub record ConvexOn (P : ℤ → Type 0) (g : ℤ → ℤ) : Type 0 where
  pub between : (i k j : ℤ) → P i → P j → i ≤ℤ k → k ≤ℤ j → P k
  pub rising : (k : ℤ) → P k → P (suc_ℤ (suc_ℤ k)) → g k ≤ℤ g (suc_ℤ k)

-- m is a subgradient at x: the growth into x is at most m and the growth from x is at least m, where they lie among the points P
pub record Subgradient (P : ℤ → Type 0) (g : ℤ → ℤ) (m x : ℤ) : Type 0 where
  pub left : P (pred_ℤ x) → g (pred_ℤ x) ≤ℤ m
  pub right : P (suc_ℤ x) → m ≤ℤ g x

-- the total of g less the line of slope m
abbrev pub tilted : (ℤ → ℤ) → ℤ → ℤ → ℤ
tilted g m k = total g k -ℤ line m k

-- from one point to the next it grows by the growth less the slope
tilted_suc : (g : ℤ → ℤ) (m k : ℤ) → tilted g m (suc_ℤ k) ≡ tilted g m k +ℤ g k -ℤ m
tilted_suc g m k = omega (arith, ints, total_suc g k, total_suc (λ n. m) k)

-- the same, into a point
tilted_pred : (g : ℤ → ℤ) (m k : ℤ) → tilted g m k ≡ tilted g m (pred_ℤ k) +ℤ g (pred_ℤ k) -ℤ m
tilted_pred g m k = rw suc-pred at (tilted_suc g m (pred_ℤ k))

module _ (P : ℤ → Type 0) (g : ℤ → ℤ) (convex : ConvexOn P g) (m : ℤ) where
  -- no point on the right has less, if the growth from x is at least m
  least_right : (n : ℕ) (x y : ℤ) → x +ℤ pos n ≡ y → P x → P y → (P (suc_ℤ x) → m ≤ℤ g x) → tilted g m x ≤ℤ tilted g m y
  least_right zero x y e p q right = let same : x ≡ y = omega (arith, ints) in rw same (≤ℤ_refl (tilted g m y))
  least_right (suc n) x y e p q right =
      let one = +ℤ_one x in
      let next : P (suc_ℤ x) = convex.between x (suc_ℤ x) y p q (omega (arith, ints)) (omega (arith, ints)) in
      let up = right next in
      let step = tilted_suc g m x in
      let rest = least_right n (suc_ℤ x) y (omega (arith, ints)) next q (λ r. omega (arith, ints, convex.rising x p r)) in
      omega (arith, ints)

  -- no point on the left has less, if the growth into x is at most m
  least_left : (n : ℕ) (x y : ℤ) → y +ℤ pos n ≡ x → P x → P y → (P (pred_ℤ x) → g (pred_ℤ x) ≤ℤ m) → tilted g m x ≤ℤ tilted g m y
  least_left zero x y e p q left = let same : x ≡ y = omega (arith, ints) in rw same (≤ℤ_refl (tilted g m y))
  least_left (suc n) x y e p q left =
      let z : ℤ = pred_ℤ x in
      let one : z +ℤ pos 1 ≡ x = +ℤ_one z ∙ suc-pred x in
      let next : P z = convex.between y z x q p (omega (arith, ints)) (omega (arith, ints)) in
      let down = left next in
      let step = tilted_pred g m x in
      let rest = least_left n z y (omega (arith, ints)) next q (λ r. omega (arith, ints, simp suc-pred at (convex.rising (pred_ℤ z) r) p)) in
      omega (arith, ints)

  -- where m is a subgradient, no point has less
  least : (x y : ℤ) → P x → P y → Subgradient P g m x → tilted g m x ≤ℤ tilted g m y
  least x y p q s = by (y -ℤ x) refl
    where
      by : (d : ℤ) → y -ℤ x ≡ d → tilted g m x ≤ℤ tilted g m y
      by (pos n) e = least_right n x y (omega (arith, ints)) p q s.right
      by (negsuc n) e = least_left (suc n) x y (omega (arith, ints)) p q s.left

  -- where no point has less, m is a subgradient
  least_only : (y : ℤ) → ((z : ℤ) → P z → tilted g m y ≤ℤ tilted g m z) → Subgradient P g m y
  least_only y low = record {
    left = λ p. omega (arith, ints, tilted_pred g m y, low (pred_ℤ y) p);
    right = λ p. omega (arith, ints, tilted_suc g m y, low (suc_ℤ y) p);
  }

  -- the value where m is a subgradient is a lower bound of every value, and tight only where m is one too
  pub subgradient_bound : (x y : ℤ) → P x → P y → Subgradient P g m x → LowerBound (Subgradient P g m y) (tilted g m x) (tilted g m y)
  subgradient_bound x y p q s = record {
    bound = least x y p q s;
    tight = λ h. least_only y (λ z r. omega (arith, ints, h, least x z p r s));
  }
