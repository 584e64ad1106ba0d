-- The leans that can stand at a slot, as far as the slots before it are concerned: from the message one level below its level to the message at it.
use Rattle.std.proofs.Common.{◌≡◌, ℕ, zero, suc, ◌<◌, ◌≤◌, ℤ, pos, ◌+ℤ◌, ◌-ℤ◌, neg_ℤ, ◌≤ℤ◌, Some, ◌∙◌, arith}
use native.Mathlib.Decide.{dec_lt}
use lib.IntN.{pred_ℤ, +ℤ_one, suc-pred, pred-suc}
use Rattle.std.proofs.lemmas.Int.{ints}
use Rattle.optimum.proofs.Charges.{Supports, move_suc}
use Rattle.optimum.proofs.Tolls.{growth, growth_down}
use Rattle.optimum.proofs.Sweep.{held}
use Rattle.optimum.proofs.Thresholds.{MonotoneTo, monotone_le}
use Rattle.optimum.proofs.Messages.{Monotone, Clamped}
use Rattle.optimum.proofs.Passing.{clamped_monotone, clamped_below, held_toll_le, held_le_toll}

-- a message one level below a level, and c below level 0
unfoldable pub below : ℤ → (ℕ → ℤ) → ℕ → ℤ
below c N zero = c
below c N (suc v) = N v

-- the lean l lies in the interval of level x under the message N, which counts as c below level 0
pub record Between (c : ℤ) (N : ℕ → ℤ) (x : ℕ) (l : ℤ) : Type 0 where
  pub lower : below c N x ≤ℤ l
  pub upper : l ≤ℤ N x

-- the lower end is no more than the upper
pub below_le : (c : ℤ) (N : ℕ → ℤ) → c ≤ℤ N 0 → Monotone N → (x : ℕ) → below c N x ≤ℤ N x
unfolding below
below_le c N start monotone zero = start
below_le c N start monotone (suc v) = monotone v

-- it is no less than the message at any lower level
below_over : (c : ℤ) (N : ℕ → ℤ) → Monotone N → (v x : ℕ) → v < x → N v ≤ℤ below c N x
unfolding below
below_over c N monotone v zero up = absurd (omega arith)
below_over c N monotone v (suc w) up = monotone_le N (suc w) (λ k _. monotone k) v w (omega arith) (omega arith)

module _
    {S N : ℕ → ℤ} {low high up down first second : ℕ} (clamped : Clamped S N low high up down first second) (rising : MonotoneTo S high)
  where
    -- the lower end lies within the tolls
    below_tolls : (x : ℕ) → neg_ℤ (pos down) ≤ℤ below (neg_ℤ (pos down)) N x
    unfolding below
    below_tolls zero = omega (arith, ints)
    below_tolls (suc v) = (clamped.tolls v).0

    -- it is no less than the growth of the toll into x, from x held between the thresholds
    below_growth : (x : ℕ) → growth up down (pred_ℤ (pos x -ℤ pos (held first second x))) ≤ℤ below (neg_ℤ (pos down)) N x
    unfolding below
    below_growth zero =
        let move : ℤ = pos 0 -ℤ pos (held first second 0) in
        let one : pred_ℤ move +ℤ pos 1 ≡ move = +ℤ_one (pred_ℤ move) ∙ suc-pred move in
        omega (arith, ints, growth_down up down (pred_ℤ move) (omega (arith, ints)))
    below_growth (suc v) = rw (move_suc (held first second (suc v)) v, pred-suc) (held_toll_le clamped (suc v) v (omega arith))

    module _ (x : ℕ) (l : ℤ) (between : Between (neg_ℤ (pos down)) N x l) where
      -- a lean of the interval supports the toll into x, from x held between the thresholds
      pub between_supports : Supports (growth up down) (Some (held first second x)) x l
      between_supports = record {
        left = λ _. omega (arith, ints, between.lower, below_growth x);
        right = λ _. omega (arith, ints, between.upper, held_le_toll clamped x x (omega arith));
      }

      -- one step up from x held between the thresholds costs no less than a lean of the interval
      pub between_above : held first second x < high → l ≤ℤ S (held first second x)
      unfolding held
      between_above open_above =
          let u : ℕ = held first second x in
          let order = clamped.order in
          let from = clamped_below clamped u (omega arith) open_above in
          elim (dec_lt u x) [
            | yes rise ↦ omega (arith, ints, between.upper, clamped.tolls x, clamped.at_up u (omega arith))
            | no h ↦ omega (arith, ints, between.upper, monotone_le N (suc u) (λ k _. clamped_monotone clamped rising k) x u (omega arith) (omega arith))
          ]

      -- and one step down saves no more
      pub between_below : (v : ℕ) → low ≤ v → suc v ≡ held first second x → S v ≤ℤ l
      unfolding held
      between_below v from e =
          let order = clamped.order in
          let low_end = below_tolls x in
          elim (dec_lt v first) [
            | yes h ↦ omega (arith, ints, between.lower, clamped.raised v from h, clamped.at_down v h)
            | no h ↦
                omega
                (arith, ints, between.lower, clamped.same v (omega arith) (omega arith), below_over (neg_ℤ (pos down)) N (clamped_monotone clamped rising) v x (omega arith))
          ]
