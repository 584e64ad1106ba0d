-- The leans of the two passes obey the rules with the plan of the sweep.
-- The first pass gives each slot the lower end of its interval, and the second the least lean in it that the later slots allow.
use Rattle.std.proofs.Common.{◌≡◌, ℕ, zero, suc, ◌-◌, ◌<◌, ◌≤◌, List, [], ◌∷◌, ℤ, pos, negsuc, ◌-ℤ◌, neg_ℤ, ◌≤ℤ◌, Some, None, Option, sym, refl, ap, ◌∙◌, arith}
use native.Mathlib.Decide.{dec_lt}
use lib.IntN.{pred_ℤ}
use Rattle.std.specs.List.{AllByRecursion}
use Rattle.std.proofs.lemmas.Int.{ints, clamps}
use Rattle.optimum.specs.Plans.{Terms, Within}
use Rattle.optimum.specs.Leans.{Obeys, next_lean}
use Rattle.optimum.specs.Theorems.{Convex, Open}
use Rattle.optimum.proofs.Sweep.{joined, held, walk, first_level, level_before, next_message, next_up, next_down}
use Rattle.optimum.proofs.Messages.{Monotone, Clamped, joined_monotone}
use Rattle.optimum.proofs.Charges.{Supports}
use Rattle.optimum.proofs.Tolls.{growth}
use Rattle.optimum.proofs.Slots.{Rests, rests_from}
use Rattle.optimum.proofs.Rules.{obeys_supports}
use Rattle.optimum.proofs.Stands.{obeys_none}
use Rattle.optimum.proofs.PriceUnder.{next_growth, next_clamped, next_monotone}
use Rattle.optimum.proofs.Walk.{walk_within}
use Rattle.optimum.proofs.LeanPasses.{forward_from, forward_with, forward, backward, forward_lean, forward_rise, forward_fall, forward_lowest, forward_stay, backward_lean, backward_raised, backward_top}
use Rattle.optimum.proofs.LeanIntervals.{below, below_le, Between, between_above, between_below, between_supports}

module _
    (c : ℤ) (M : ℕ → ℤ) (t₀ t : Terms) {N : ℕ → ℤ} {first second : ℕ}
    (clamped : Clamped (joined M t₀) N t₀.low t₀.high t.up t.down first second)
  where
    -- where the level stays above the low level, the greater of minus the down toll and the lean before with the step below is the message
    stay_below : (v : ℕ) → suc v ≡ held first second (suc v) → t₀.low ≤ v → forward_lean t₀ (suc v) (below c M (suc v)) t (suc v) ≡ N v
    unfolding below held joined
    stay_below v stay from =
        let one_down : suc v - 1 ≡ v = omega arith in
        let lean = rw one_down at (forward_stay t₀ (suc v) (M v) t (suc v) refl (omega arith)) in
        elim (dec_lt v first) [
          | yes h ↦ omega (arith, ints, clamps, clamped.raised v from h, clamped.at_down v h)
          | no h ↦ omega (arith, ints, clamps, clamped.same v (omega arith) (omega (arith, clamped.order)), clamped.tolls v)
        ]

    -- the first pass gives the slot the lower end of its interval, if it gave that to the slot before it
    forward_below : (x : ℕ) → forward_lean t₀ (held first second x) (below c M (held first second x)) t x ≡ below (neg_ℤ (pos t.down)) N x
    unfolding below held
    forward_below zero =
        let u : ℕ = held first second 0 in
        let l₀ : ℤ = below c M u in
        elim (dec_lt 0 u) [
          | yes fall ↦ forward_fall t₀ u l₀ t 0 fall
          | no stay ↦ forward_lowest t₀ u l₀ t 0 (omega arith) (omega arith)
        ]
    forward_below (suc v) =
        let u : ℕ = held first second (suc v) in
        let l₀ : ℤ = below c M u in
        let order = clamped.order in
        elim (dec_lt u (suc v)) [
          | yes rise ↦ forward_rise t₀ u l₀ t (suc v) rise ∙ sym (clamped.at_up v (omega arith))
          | no h ↦
              elim (dec_lt (suc v) u) [
                | yes fall ↦ forward_fall t₀ u l₀ t (suc v) fall ∙ sym (clamped.at_down v (omega arith))
                | no k ↦
                    let stay : suc v ≡ u = omega arith in
                    elim (dec_lt v t₀.low) [
                      | yes lowest ↦
                          forward_lowest t₀ u l₀ t (suc v) stay (omega arith) ∙ sym (clamped.at_down v (omega (arith, clamped.from)))
                      | no above ↦ rw (← stay) (stay_below v stay (omega arith))
                    ]
              ]
        ]

module _
    (c : ℤ) (M : ℕ → ℤ) (t : Terms) (monotone : Monotone M) (start : c ≤ℤ M 0) (convex : Convex t)
    {N : ℕ → ℤ} {up down first second : ℕ} (clamped : Clamped (joined M t) N t.low t.high up down first second)
    (x : ℕ) (next : ℤ) (between : Between (neg_ℤ (pos down)) N x next) (u : ℕ) (is_held_lem : u ≡ held first second x)
  where
    -- the second pass keeps to the interval of a slot, if it kept to that of the slot behind it
    backward_between : Between c M u (backward_lean t u (below c M u) next)
    unfolding joined
    backward_between =
        let l : ℤ = below c M u in
        let order = below_le c M start monotone u in
        let above = rw (← is_held_lem) at (between_above clamped (joined_monotone M t monotone convex) x next between) in
        elim (dec_lt u t.high) [
          | yes lower ↦
              let raised = backward_raised t u l next lower in
              let upper = above lower in
              record { lower = omega (arith, ints, clamps); upper = omega (arith, ints, clamps) }
          | no top ↦ let same = backward_top t u l next (omega arith) in record { lower = omega (arith, ints); upper = omega (arith, ints) }
        ]

    -- no step up costs less than the next lean gains over its own
    backward_right : u < t.high → (next -ℤ backward_lean t u (below c M u) next) ≤ℤ t.steps u
    backward_right lower = omega (arith, ints, clamps, backward_raised t u (below c M u) next lower)

    -- and no step down saves more
    backward_left : (v : ℕ) → suc v ≡ u → t.low ≤ v → t.steps v ≤ℤ (next -ℤ backward_lean t (suc v) (below c M (suc v)) next)
    unfolding joined below
    backward_left v e from =
        let saved = between_below clamped (joined_monotone M t monotone convex) x next between v from (e ∙ is_held_lem) in
        elim (dec_lt (suc v) t.high) [
          | yes lower ↦ omega (arith, ints, clamps, backward_raised t (suc v) (M v) next lower, convex v lower)
          | no top ↦ omega (arith, ints, backward_top t (suc v) (M v) next (omega arith))
        ]

    -- so the slot rests
    backward_rests : Rests t (next -ℤ backward_lean t u (below c M u) next) u
    backward_rests =
        rests_from t (next -ℤ backward_lean t u (below c M u) next) u backward_right (λ v e from. rw e at (backward_left v e from))

-- what is known of a message to some slots, coming from the level before: it does not fall, it is at least c at level 0,
-- and the leans of its interval at their first level support the toll
record MessageTo (before : Option ℕ) (c : ℤ) (M : ℕ → ℤ) (ts : List Terms) : Type 0 where
  monotone : Monotone M
  start : c ≤ℤ M 0
  supports : (l : ℤ) → Between c M (first_level (walk M ts)) l → Supports (next_growth ts) before (first_level (walk M ts)) l

-- the leans of both passes along the walk from a message, where the first is the lower end of its interval
abbrev passes : ℤ → (ℕ → ℤ) → List Terms → List ℤ
passes c M ts = let xs : List ℕ = walk M ts in backward ts xs (forward_with (below c M (first_level xs)) ts xs)

module _ (c : ℤ) (M : ℕ → ℤ) (t : Terms) (monotone : Monotone M) (convex : Convex t) (is_open : Open t) where
  -- what is known of the message that a slot passes on
  passed_on :
      (ts : List Terms) →
      MessageTo (Some (level_before M t ts (first_level (walk (next_message M t ts) ts)))) (neg_ℤ (pos (next_down ts))) (next_message M t ts) ts
  passed_on ts =
      let clamped = next_clamped M t ts monotone convex is_open in
      let rising = joined_monotone M t monotone convex in
      record {
        monotone = next_monotone M t ts monotone convex is_open;
        start = (clamped.tolls 0).0;
        supports = between_supports clamped rising (first_level (walk (next_message M t ts) ts));
      }

  -- behind a slot that has the lower end of its interval, the first pass goes on with that of the next
  forward_on :
      (ts : List Terms) (xs : List ℕ) → let u : ℕ = level_before M t ts (first_level xs) in
      forward_from t u (below c M u) ts xs ≡ forward_with (below (neg_ℤ (pos (next_down ts))) (next_message M t ts) (first_level xs)) ts xs
  unfolding forward_from forward_with first_level next_up next_down
  forward_on [] xs = refl
  forward_on (t' ∷ ts) [] = refl
  forward_on (t' ∷ ts) (x ∷ xs) =
      ap (λ (l : ℤ). l ∷ forward_from t' x l ts xs) (forward_below c M t t' (next_clamped M t (t' ∷ ts) monotone convex is_open) x)

-- a lean that supports no toll is 0
supports_none : (before : Option ℕ) (x : ℕ) (l : ℤ) → Supports (growth 0 0) before x l → l ≡ pos 0
supports_none None x l e = e
supports_none (Some u) x l s =
    let flat : (d : ℤ) → growth 0 0 d ≡ pos 0 = elim [ pos n ↦ refl | negsuc n ↦ refl ] in
    omega (arith, ints, flat (pred_ℤ (pos x -ℤ pos u)), flat (pos x -ℤ pos u), s.left tt, s.right tt)

-- the leans of both passes obey the rules along the walk, and the first lies in the interval of its level
passes_obey :
    (before : Option ℕ) (c : ℤ) (M : ℕ → ℤ) (ts : List Terms) → MessageTo before c M ts → AllByRecursion Convex ts → AllByRecursion Open ts →
    Between c M (first_level (walk M ts)) (next_lean (passes c M ts)) × Obeys before ts (walk M ts) (passes c M ts)
unfolding walk Within first_level forward_with backward next_lean next_up next_down below
passes_obey before c M [] m convex opens =
    let start = m.start in
    let none = supports_none before 0 c (m.supports c (record { lower = omega (arith, ints); upper = start })) in
    (record { lower = omega (arith, ints); upper = omega (arith, ints) }, obeys_none before)
passes_obey before c M (t ∷ ts) m convex opens =
    let N : ℕ → ℤ = next_message M t ts in
    let x : ℕ = first_level (walk N ts) in
    let u : ℕ = level_before M t ts x in
    let d : ℤ = neg_ℤ (pos (next_down ts)) in
    let rest : List ℤ = passes d N ts in
    let clamped = next_clamped M t ts m.monotone convex.0 opens.0 in
    let sent = passed_on c M t m.monotone convex.0 opens.0 ts in
    let behind = passes_obey (Some u) d N ts sent convex.1 opens.1 in
    let within : Within (t ∷ ts) (u ∷ walk N ts) = walk_within M (t ∷ ts) opens in
    let between = backward_between c M t m.monotone m.start convex.0 clamped x (next_lean rest) behind.0 u refl in
    let rests = backward_rests c M t m.monotone m.start convex.0 clamped x (next_lean rest) behind.0 u refl in
    let l : ℤ = backward_lean t u (below c M u) (next_lean rest) in
    rw
    (forward_on c M t m.monotone convex.0 opens.0 ts (walk N ts))
    (between, (obeys_supports before t ts u (walk N ts) l rest within).1 ((m.supports l between, rests), behind.1))

-- a constant is the same below a level
below_constant : (c : ℤ) (x : ℕ) → below c (λ _. c) x ≡ c
unfolding below
below_constant c zero = refl
below_constant c (suc v) = refl

-- with no level before, the leans of a message that is 0 everywhere are 0
message_to_first : (ts : List Terms) → MessageTo None (pos 0) (λ _. pos 0) ts
message_to_first ts = record {
  monotone = λ v. omega (arith, ints);
  start = omega (arith, ints);
  supports = λ l between. omega (arith, ints, between.lower, between.upper, below_constant (pos 0) (first_level (walk (λ _. pos 0) ts)));
}

-- the leans of the two passes obey the rules with the plan of the sweep
pub leans_obey :
    (ts : List Terms) → AllByRecursion Convex ts → AllByRecursion Open ts →
    let xs : List ℕ = walk (λ _. pos 0) ts in Obeys None ts xs (backward ts xs (forward ts xs))
unfolding forward
leans_obey ts convex opens =
    let xs : List ℕ = walk (λ _. pos 0) ts in
    let obeys = (passes_obey None (pos 0) (λ _. pos 0) ts (message_to_first ts) convex opens).1 in
    rw (below_constant (pos 0) (first_level xs)) at obeys
