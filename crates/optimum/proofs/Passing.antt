-- What it costs to come through one slot to a level of the next: the least of it, and where that is reached.
use Rattle.std.proofs.Common.{◌≡◌, ℕ, suc, ◌<◌, ◌≤◌, ℤ, pos, ◌+ℤ◌, ◌-ℤ◌, ◌≤ℤ◌, ◌<ℤ◌, Some, arith}
use native.Mathlib.Decide.{dec_lt}
use Rattle.std.proofs.lemmas.Int.{ints}
use Rattle.curve.specs.Meaning.{climb}
use Rattle.optimum.proofs.Climbs.{climb_le, climb_lt, climb_same}
use Rattle.optimum.proofs.Charges.{charge, growth_from, charge_between}
use Rattle.optimum.proofs.Tolls.{growth, growth_down, growth_up}
use Rattle.optimum.proofs.Sweep.{held}
use Rattle.optimum.proofs.Thresholds.{MonotoneTo}
use Rattle.optimum.proofs.Messages.{Monotone, Clamped}

module _ {S N : ℕ → ℤ} {low high up down first second : ℕ} (clamped : Clamped S N low high up down first second) where
  -- what does not fall does not fall when it is clamped
  pub clamped_monotone : MonotoneTo S high → Monotone N
  clamped_monotone rising v =
      elim (dec_lt v first) [
        | yes h ↦ omega (arith, ints, clamped.at_down v h, clamped.tolls (suc v))
        | no h ↦
            elim (dec_lt (suc v) second) [
              | yes k ↦
                  let same = clamped.same v (omega arith) (omega arith) in
                  let same_after = clamped.same (suc v) (omega arith) k in
                  omega (arith, ints, rising v (omega (arith, clamped.upto)))
              | no k ↦ omega (arith, ints, clamped.tolls v, clamped.at_up (suc v) (omega arith))
            ]
      ]

  -- S climbs less than N from a level below the first threshold to the threshold
  slot_less : (u : ℕ) → low ≤ u → u < first → (climb S first +ℤ climb N u) <ℤ (climb S u +ℤ climb N first)
  slot_less u from below =
      omega (arith, ints, climb_lt S N u first below (clamped.raised u from below) (λ v a b. omega (arith, ints, clamped.raised v (omega arith) b)))

  -- S climbs as much as N from the first threshold to a level between the two
  slot_same : (u : ℕ) → first ≤ u → u ≤ second → climb S first +ℤ climb N u ≡ climb S u +ℤ climb N first
  slot_same u from upto = omega (arith, ints, climb_same N S first u from (λ v a b. clamped.same v a (omega arith)))

  -- from the first threshold on, N is no more than S
  pub clamped_below : (v : ℕ) → first ≤ v → v < high → N v ≤ℤ S v
  clamped_below v from below =
      elim (dec_lt v second) [
        | yes h ↦ omega (arith, ints, clamped.same v from h)
        | no h ↦ clamped.lowered v (omega arith) below
      ]

  -- so the climb of S, less that of N, is least between the thresholds
  slot_least : (u : ℕ) → low ≤ u → u ≤ high → (climb S first +ℤ climb N u) ≤ℤ (climb S u +ℤ climb N first)
  slot_least u from upto =
      elim (dec_lt u first) [
        | yes h ↦ omega (arith, ints, slot_less u from h)
        | no h ↦ omega (arith, ints, climb_le N S first u (omega arith) (λ v a b. clamped_below v a (omega arith)))
      ]

  -- N grows no less than the toll below the level that a move starts from, and no more from there on
  toll_le : (u v : ℕ) → v < u → growth_from (growth up down) u v ≤ℤ N v
  toll_le u v below = omega (arith, ints, growth_down up down (pos v -ℤ pos u) (omega (arith, ints)), clamped.tolls v)

  le_toll : (u v : ℕ) → u ≤ v → N v ≤ℤ growth_from (growth up down) u v
  le_toll u v above = omega (arith, ints, growth_up up down (pos v -ℤ pos u) (omega (arith, ints)), clamped.tolls v)

  -- so it climbs no more on a move than the toll
  move_least : (u v : ℕ) → climb N v ≤ℤ (climb N u +ℤ charge (growth up down) (Some u) v)
  move_least u v =
      let toll = charge_between (growth up down) u v in
      elim (dec_lt v u) [
        | yes fall ↦ omega (arith, ints, climb_le (growth_from (growth up down) u) N v u (omega arith) (λ w a b. toll_le u w b))
        | no rise ↦ omega (arith, ints, climb_le N (growth_from (growth up down) u) u v (omega arith) (λ w a b. le_toll u w a))
      ]

  -- it climbs less on a move up from a level between the thresholds
  move_less : (u v : ℕ) → first ≤ u → u < second → u < v → climb N v <ℤ (climb N u +ℤ charge (growth up down) (Some u) v)
  move_less u v from below rise =
      let toll = charge_between (growth up down) u v in
      let less : N u <ℤ growth_from (growth up down) u u = omega (arith, ints, growth_up up down (pos u -ℤ pos u) (omega (arith, ints)), clamped.under_up u from below) in
      omega (arith, ints, climb_lt N (growth_from (growth up down) u) u v rise less (λ w a b. le_toll u w a))

  -- from x held between the thresholds, N grows no less than the toll below x, and no more from there on
  pub held_toll_le : (x v : ℕ) → v < x → growth_from (growth up down) (held first second x) v ≤ℤ N v
  unfolding held
  held_toll_le x v below =
      let u : ℕ = held first second x in
      elim (dec_lt v u) [
        | yes h ↦ toll_le u v h
        | no h ↦ omega (arith, ints, growth_up up down (pos v -ℤ pos u) (omega (arith, ints)), clamped.at_up v (omega (arith, clamped.order)))
      ]

  pub held_le_toll : (x v : ℕ) → x ≤ v → N v ≤ℤ growth_from (growth up down) (held first second x) v
  unfolding held
  held_le_toll x v above =
      let u : ℕ = held first second x in
      elim (dec_lt v u) [
        | yes h ↦ omega (arith, ints, growth_down up down (pos v -ℤ pos u) (omega (arith, ints)), clamped.at_down v (omega (arith, clamped.order)))
        | no h ↦ le_toll u v (omega arith)
      ]

  -- so it climbs as much as the toll on a move to v from v held between the thresholds
  move_same : (v : ℕ) → climb N v ≡ climb N (held first second v) +ℤ charge (growth up down) (Some (held first second v)) v
  move_same v =
      let u : ℕ = held first second v in
      let toll_growth : ℕ → ℤ = growth_from (growth up down) u in
      let toll = charge_between (growth up down) u v in
      elim (dec_lt v u) [
        | yes fall ↦ omega (arith, ints, climb_same N toll_growth v u (omega arith) (λ w a b. omega (arith, ints, held_le_toll v w a, toll_le u w b)))
        | no rise ↦ omega (arith, ints, climb_same N toll_growth u v (omega arith) (λ w a b. omega (arith, ints, held_toll_le v w b, le_toll u w a)))
      ]

  -- to come from level u of the slot to level v of the next costs no less than N says
  pub pass_least : (u v : ℕ) → low ≤ u → u ≤ high →
      (climb S first +ℤ climb N v) ≤ℤ (climb S u +ℤ charge (growth up down) (Some u) v +ℤ climb N first)
  pass_least u v from upto = omega (arith, ints, slot_least u from upto, move_least u v)

  -- it costs more from a level below v held between the thresholds
  pub pass_less : (u v : ℕ) → low ≤ u → u ≤ high → u < held first second v →
      (climb S first +ℤ climb N v) <ℤ (climb S u +ℤ charge (growth up down) (Some u) v +ℤ climb N first)
  unfolding held
  pass_less u v from upto below =
      elim (dec_lt u first) [
        | yes h ↦ omega (arith, ints, slot_less u from h, move_least u v)
        | no h ↦ omega (arith, ints, slot_least u from upto, move_less u v (omega arith) (omega arith) (omega arith))
      ]

  -- it costs just that from v held between the thresholds
  pub pass_same : (v : ℕ) →
      climb S first +ℤ climb N v ≡ climb S (held first second v) +ℤ charge (growth up down) (Some (held first second v)) v +ℤ climb N first
  unfolding held
  pass_same v = omega (arith, ints, move_same v, slot_same (held first second v) (omega arith) (omega (arith, clamped.order)))
