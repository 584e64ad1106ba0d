-- What the steps add up to, for every kind of curve.
use Rattle.std.specs.Prelude.{◌≡◌, ℕ, zero, suc, ◌+◌, ◌*◌, ◌<◌, ◌≤◌, ℤ, ◌+ℤ◌, ◌≤ℤ◌}
use Rattle.std.proofs.Common.{sym, ◌∙◌, ap, arith}
use Rattle.std.proofs.Math.Decide.{dec_le}
use Rattle.std.proofs.Math.IntN.{+ℤ_idr, +ℤ_assoc}
use Rattle.std.specs.Int.Signed.{≤ℤ_refl}
use Rattle.std.proofs.lemmas.Int.{ints}
use Rattle.curve.specs.Limits.{Within, top, last_step, step_limit, ground_limit}
use Rattle.curve.specs.Meaning.{climb, cost}

-- the cost at level 0 is the ground
pub cost_none : (ground : ℤ) (steps : ℕ → ℤ) → cost ground steps zero ≡ ground
unfolding cost climb
cost_none ground steps = +ℤ_idr ground

-- one level more costs the step there
pub cost_more : (ground : ℤ) (steps : ℕ → ℤ) (v : ℕ) → cost ground steps (suc v) ≡ cost ground steps v +ℤ steps v
unfolding cost climb
cost_more ground steps v = sym (+ℤ_assoc ground (climb steps v) (steps v))

-- a formula that begins at the ground and grows by the steps is the cost
pub cost_is : (ground : ℤ) (steps formula : ℕ → ℤ) → formula zero ≡ ground → ((v : ℕ) → formula (suc v) ≡ formula v +ℤ steps v) → (v : ℕ) → cost ground steps v ≡ formula v
cost_is ground steps formula begins grows zero = cost_none ground steps ∙ sym begins
cost_is ground steps formula begins grows (suc v) =
    cost_more ground steps v ∙ ap (λ (c : ℤ). c +ℤ steps v) (cost_is ground steps formula begins grows v) ∙ sym (grows v)

-- steps that never fall from one level to the next never fall from a level to a warmer one
pub rising_between : (steps : ℕ → ℤ) → ((v : ℕ) → v < last_step → steps v ≤ℤ steps (suc v)) → (v w : ℕ) → v ≤ w → w ≤ last_step → steps v ≤ℤ steps w
rising_between steps rising v zero le within = let e : v ≡ zero = omega arith in rw e (≤ℤ_refl (steps zero))
rising_between steps rising v (suc w) le within =
    let step = rising w (omega arith) in
    cases (λ h. rising_between steps rising v w h (omega arith)) step (dec_le v w)
  where
    cases : (v ≤ w → steps v ≤ℤ steps w) → steps w ≤ℤ steps (suc w) → Dec (v ≤ w) → steps v ≤ℤ steps (suc w)
    cases before step (yes h) = omega (arith, ints, before h)
    cases before step (no h) = let e : v ≡ suc w = omega arith in rw e (≤ℤ_refl (steps (suc w)))

-- a cost lies within the limit of the ground and the limit of a step for each level
pub cost_bounded :
    (ground : ℤ) (steps : ℕ → ℤ) →
    Within ground_limit ground →
    ((v : ℕ) → v ≤ last_step → Within step_limit (steps v)) →
    (v : ℕ) → v ≤ top → Within (ground_limit + v * step_limit) (cost ground steps v)
cost_bounded ground steps grounded bounded zero within = let none = cost_none ground steps in (omega (arith, ints), omega (arith, ints))
cost_bounded ground steps grounded bounded (suc v) within =
    let before = cost_bounded ground steps grounded bounded v (omega arith) in
    let more = cost_more ground steps v in
    let step = bounded v (omega arith) in
    (omega (arith, ints), omega (arith, ints))
