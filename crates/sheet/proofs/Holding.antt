-- The numbers of a slot without a fault fit their fields.
use Rattle.std.proofs.Common.{◌≡◌, ℕ, zero, suc, ◌+◌, ◌^◌, ◌<◌, ◌≤◌, Bool, true, false, ◌&&◌, ltb, leb, List, [], ◌∷◌, length, get_or, take, ℤ, pos, negsuc, None, refl, ap, ◌∙◌, subst, zero-add, arith, length-take, w32, SFits, ltb-true, leb-true}
use lib.Signed.{le_z, mag}
use Rattle.std.proofs.ByRecursion.{All-get_or}
use Rattle.std.proofs.lemmas.List.{get_or-take}
use Rattle.std.specs.List.{AllByRecursion}
use Rattle.curve.specs.Tests.{and_left, and_right, all_pass}
use Rattle.curve.specs.KneeSteps.{rise_from, never_fall, knees_rules}
use Rattle.curve.specs.Limits.{last_step, rate_limit, knee_limit, top, weight_limit, held_by}
use Rattle.curve.specs.WrittenCurves.{written_fault}
use Rattle.curve.specs.declared.fault.CurveFault.TheVariants.{Weight, Target, Edges, Rate}
use Rattle.curve.specs.declared.written.Written.{Written}
use Rattle.curve.specs.declared.written.Written.TheVariants.{Square, Band, Knees}
use Rattle.slots.specs.Limits.{toll_limit}
use Rattle.slots.specs.declared.slot.Slot.{Slot}
use Rattle.sheet.specs.Fields.{Values, AllHold}
use Rattle.sheet.specs.Kinds.{kind_of_curve, fields, curve_fields, knee_fields}
use Rattle.sheet.specs.SlotFields.{curve_of, curve_values, knee_levels, knee_steps, knee_values, used, slot_values, as_written}
use Rattle.sheet.specs.SlotFaultsLemmas.{Passes}

-- a number held by a limit is no larger than it
held_size : (m : ℕ) (z : ℤ) → held_by (suc m) z ≡ true → mag z ≤ suc m
held_size m (pos n) held = leb-true n (suc m) (and_right (le_z (negsuc m) (pos n)) (le_z (pos n) (pos (suc m))) held)
held_size m (negsuc n) held = let least = leb-true n m (and_left (le_z (negsuc m) (negsuc n)) (le_z (negsuc n) (pos (suc m))) held) in omega arith

-- rising levels and steps are small
rising_small : (before : ℕ) (levels : List ℕ) → rise_from before levels ≡ true → AllByRecursion (λ l. l ≤ last_step) levels
rising_small before [] rise = tt
rising_small before (level ∷ levels) rise =
    let first = and_left (ltb before level && leb level last_step) (rise_from level levels) rise in
    (leb-true level last_step (and_right (ltb before level) (leb level last_step) first), rising_small level levels (and_right (ltb before level && leb level last_step) (rise_from level levels) rise))

falling_small : (before : ℤ) (steps : List ℤ) → never_fall before steps ≡ true → AllByRecursion (λ z. held_by rate_limit z ≡ true) steps
falling_small before [] rise = tt
falling_small before (step ∷ steps) rise =
    let first = and_left (le_z before step && held_by rate_limit step) (never_fall step steps) rise in
    (and_right (le_z before step) (held_by rate_limit step) first, falling_small step steps (and_right (le_z before step && held_by rate_limit step) (never_fall step steps) rise))

-- one of the first of a list, where all of those have a property
among_first : {X : Type 0} (P : X → Type 0) (count k : ℕ) (xs : List X) (d : X) → k < count → k < length xs → AllByRecursion P (take count xs) → P (get_or xs k d)
among_first P count k xs d counted within all =
    let long : k < length (take count xs) = simp length-take (omega arith) in
    subst P (get_or-take count xs k d counted) (All-get_or P (take count xs) k d long all)

-- what is written of a knee: one of those that count, or nought
written_knee : {X : Type 0} (P : X → Type 0) (count k : ℕ) (xs shown : List X) (nought : X) → P nought → k < length shown → get_or shown k nought ≡ used count k xs nought → AllByRecursion P (take count shown) → P (used count k xs nought)
written_knee P count k xs shown nought none within is all = by_test (ltb k count) refl
  where
    by_test : (t : Bool) → ltb k count ≡ t → P (used count k xs nought)
    by_test true test = subst P is (among_first P count k shown nought (ltb-true k count test) within all)
    by_test false test = rw test none

module _ (count : ℕ) (levels : List ℕ) (steps : List ℤ) where
  -- the knees as they are written
  abbrev shown : (many place : ℕ) → Values (knee_fields many)
  shown many place = knee_values many place count levels steps

  pub shown_levels : (many place : ℕ) → length (knee_levels many (shown many place)) ≡ many
  shown_levels zero place = refl
  shown_levels (suc many) place = ap suc (shown_levels many (suc place))

  pub shown_steps : (many place : ℕ) → length (knee_steps many (shown many place)) ≡ many
  shown_steps zero place = refl
  shown_steps (suc many) place = ap suc (shown_steps many (suc place))

  pub level_at : (many place k : ℕ) → k < many → get_or (knee_levels many (shown many place)) k 0 ≡ used count (place + k) levels 0
  level_at zero place k within = absurd (omega arith)
  level_at (suc many) place zero within = let here : place ≡ place + 0 = omega arith in ap (λ (n : ℕ). used count n levels 0) here
  level_at (suc many) place (suc k) within =
      let there : suc place + k ≡ place + suc k = omega arith in level_at many (suc place) k (omega arith) ∙ ap (λ (n : ℕ). used count n levels 0) there

  pub step_at : (many place k : ℕ) → k < many → get_or (knee_steps many (shown many place)) k (pos 0) ≡ used count (place + k) steps (pos 0)
  step_at zero place k within = absurd (omega arith)
  step_at (suc many) place zero within = let here : place ≡ place + 0 = omega arith in ap (λ (n : ℕ). used count n steps (pos 0)) here
  step_at (suc many) place (suc k) within =
      let there : suc place + k ≡ place + suc k = omega arith in step_at many (suc place) k (omega arith) ∙ ap (λ (n : ℕ). used count n steps (pos 0)) there

  knees_hold :
      ((k : ℕ) → k < knee_limit → used count k levels 0 < 2 ^ 16) → ((k : ℕ) → k < knee_limit → SFits w32 (used count k steps (pos 0))) →
      (many place : ℕ) → place + many ≤ knee_limit → AllHold (knee_fields many) (shown many place)
  knees_hold small fits zero place within = tt
  knees_hold small fits (suc many) place within = (small place (omega arith), (fits place (omega arith), knees_hold small fits many (suc place) (omega arith)))

  -- where the rules of a knees curve hold
  pub all_knees_hold :
      (first : ℤ) → rise_from 0 (take count (knee_levels knee_limit (shown knee_limit 0))) ≡ true → never_fall first (take count (knee_steps knee_limit (shown knee_limit 0))) ≡ true →
      AllHold (knee_fields knee_limit) (shown knee_limit 0)
  all_knees_hold first rise fall =
      let ls = knee_levels knee_limit (shown knee_limit 0) in
      let ss = knee_steps knee_limit (shown knee_limit 0) in
      let level : (k : ℕ) → k < knee_limit → used count k levels 0 < 2 ^ 16 = λ k within.
      let small = written_knee (λ l. l ≤ last_step) count k levels ls 0 (omega arith) (rw (shown_levels knee_limit 0) within) (level_at knee_limit 0 k within ∙ ap (λ (n : ℕ). used count n levels 0) (zero-add k)) (rising_small 0 (take count ls) rise) in
      omega arith
      in
      let step : (k : ℕ) → k < knee_limit → SFits w32 (used count k steps (pos 0)) = λ k within.
      let held = written_knee (λ z. held_by rate_limit z ≡ true) count k steps ss (pos 0) refl (rw (shown_steps knee_limit 0) within) (step_at knee_limit 0 k within ∙ ap (λ (n : ℕ). used count n steps (pos 0)) (zero-add k)) (falling_small first (take count ss) fall) in
      let small = held_size 899999999 (used count k steps (pos 0)) held in
      record { sfits = omega arith }
      in
      knees_hold level step knee_limit 0 (omega arith)

-- the numbers of a curve that can be made
curve_holds : (c : Written) → written_fault (curve_of (kind_of_curve c) (curve_values c)) ≡ None → AllHold (curve_fields (kind_of_curve c)) (curve_values c)
curve_holds (Square weight target) made =
    let rules = all_pass ((leb 1 weight && leb weight weight_limit, Weight) ∷ (leb target top, Target) ∷ []) made in
    let heavy = leb-true weight weight_limit (and_right (leb 1 weight) (leb weight weight_limit) rules.0) in
    let warm = leb-true target top rules.1.0 in
    (omega arith, (omega arith, tt))
curve_holds (Band cold warm cold_rate warm_rate) made =
    let rules = all_pass ((leb cold warm && leb warm top, Edges) ∷ (leb cold_rate rate_limit && leb warm_rate rate_limit, Rate) ∷ []) made in
    let edges = leb-true cold warm (and_left (leb cold warm) (leb warm top) rules.0) in
    let high = leb-true warm top (and_right (leb cold warm) (leb warm top) rules.0) in
    let one = leb-true cold_rate rate_limit (and_left (leb cold_rate rate_limit) (leb warm_rate rate_limit) rules.1.0) in
    let two = leb-true warm_rate rate_limit (and_right (leb cold_rate rate_limit) (leb warm_rate rate_limit) rules.1.0) in
    (omega arith, (omega arith, (omega arith, (omega arith, tt))))
curve_holds (Knees ground first count levels steps) made =
    let ks : Values (knee_fields knee_limit) = knee_values knee_limit 0 count levels steps in
    let ls = knee_levels knee_limit ks in
    let ss = knee_steps knee_limit ks in
    let rules = all_pass (knees_rules ground first count ls ss) made in
    let few = leb-true count knee_limit (and_right (leb 1 count) (leb count knee_limit) rules.0) in
    let start = held_size 899999999 first (and_left (held_by rate_limit first) (never_fall first (take count ss)) rules.1.1.0) in
    let fall = and_right (held_by rate_limit first) (never_fall first (take count ss)) rules.1.1.0 in
    let low = held_size 999999999999 ground rules.1.1.1.0 in
    (record { sfits = omega arith }, (record { sfits = omega arith }, (omega arith, all_knees_hold count levels steps first rules.1.0 fall)))

-- and of a slot
pub slot_holds : (s : Slot Written) → Passes (as_written s) → AllHold (fields (kind_of_curve s.curve)) (slot_values s)
slot_holds s passed =
    let wide = leb-true s.low s.high (and_left (leb s.low s.high) (leb s.high top) passed.bounds) in
    let high = leb-true s.high top (and_right (leb s.low s.high) (leb s.high top) passed.bounds) in
    let up = leb-true s.up toll_limit (and_left (leb s.up toll_limit) (leb s.down toll_limit) passed.tolls) in
    let down = leb-true s.down toll_limit (and_right (leb s.up toll_limit) (leb s.down toll_limit) passed.tolls) in
    (omega arith, (omega arith, (omega arith, (omega arith, curve_holds s.curve passed.curve))))
