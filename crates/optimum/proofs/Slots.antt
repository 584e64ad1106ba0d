-- A slot's curve as a convex function on its levels, and the rule of a slot at rest.
use Rattle.std.proofs.Common.{◌≡◌, ℕ, zero, suc, ◌-◌, ◌<◌, ◌≤◌, ◌↔◌, ℤ, pos, negsuc, ◌-ℤ◌, ◌≤ℤ◌, Option, refl, arith}
use Rattle.std.proofs.lemmas.Int.{ints}
use Rattle.std.proofs.lemmas.Bool.Decides.{nat_tests}
use Rattle.optimum.specs.Plans.{Terms}
use Rattle.optimum.specs.Leans.{at_rest}
use Rattle.optimum.specs.Theorems.{Convex}
use Rattle.optimum.proofs.LowerBounds.{LowerBound}
use Rattle.optimum.proofs.Subgradients.{ConvexOn, Subgradient, tilted, subgradient_bound}
use Rattle.optimum.proofs.Stands.{stand, RestsByRule}

-- the levels of a slot, among the whole numbers
abbrev pub Levels : Terms → ℤ → Type 0
Levels t k = (pos t.low ≤ℤ k) × (k ≤ℤ pos t.high)

-- the steps of a slot as a growth on the whole numbers; below 0, where no level is, it does not matter
abbrev pub step_growth : Terms → ℤ → ℤ
step_growth t (pos n) = t.steps n
step_growth t (negsuc n) = pos 0

-- the gain m of the next lean over a slot's own is a subgradient of its curve
abbrev pub Rests : Terms → ℤ → ℕ → Type 0
Rests t m x = Subgradient (Levels t) (step_growth t) m (pos x)

-- it is, if no step up costs less than the gain, and no step down saves more
pub rests_from :
    (t : Terms) (m : ℤ) (x : ℕ) → (x < t.high → m ≤ℤ t.steps x) → ((v : ℕ) → suc v ≡ x → t.low ≤ v → t.steps v ≤ℤ m) → Rests t m x
rests_from t m zero up down = record { left = λ p. absurd (omega (arith, ints)); right = λ p. up (omega (arith, ints)) }
rests_from t m (suc v) up down = record { left = λ p. down v refl (omega (arith, ints)); right = λ p. up (omega (arith, ints)) }

-- the rule on a slot holds exactly if the gain is a subgradient of its curve
pub rest_rule :
    (t : Terms) (b : Option ℕ) (x : ℕ) (l n : ℤ) → t.low ≤ x → x ≤ t.high →
    RestsByRule (stand t b x l n) ↔ Rests t (n -ℤ l) x
unfolding at_rest
rest_rule t b zero l n p q = (λ h. grind (arith, ints, nat_tests), λ s. grind (arith, ints, nat_tests))
rest_rule t b (suc k) l n p q =
    let one_down : suc k - 1 ≡ k = omega arith in
    (λ h. grind (arith, ints, nat_tests), λ s. grind (arith, ints, nat_tests))

-- the bracket of a slot: its curve, from the ground up, less the line of the gain
abbrev pub slot_bracket : Terms → ℤ → ℕ → ℤ
slot_bracket t m x = tilted (step_growth t) m (pos x)

-- the bracket of a slot is least where the gain is a subgradient of its curve, and only there
pub slot_bound :
    (t : Terms) → Convex t → (m : ℤ) (x y : ℕ) → t.low ≤ x → x ≤ t.high → t.low ≤ y → y ≤ t.high → Rests t m x →
    LowerBound (Rests t m y) (slot_bracket t m x) (slot_bracket t m y)
slot_bound t rises m x y p q p' q' s =
    let convex : ConvexOn (Levels t) (step_growth t) = record {
      between = λ i k j a b c d. omega (arith, ints);
      rising = elim [ pos n ↦ λ a b. rises n (omega (arith, ints)) | negsuc n ↦ λ a b. absurd (omega (arith, ints)) ];
    } in
    subgradient_bound (Levels t) (step_growth t) convex m (pos x) (pos y) (omega (arith, ints)) (omega (arith, ints)) s
