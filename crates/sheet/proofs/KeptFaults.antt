-- What a sheet keeps of a slot has the fault of the slot's curve, and no other.
use Rattle.std.proofs.Common.{◌≡◌, ℕ, zero, suc, ◌<◌, ◌≤◌, Bool, true, false, cond, ◌&&◌, leb, List, [], ◌∷◌, ◌++◌, map, length, get_or, drop, pos, nat_abs, Some, None, refl, ap, ◌∙◌, zero-add, arith, le-ltb, eq-eqb}
use Rattle.std.proofs.lemmas.List.{length-map}
use Rattle.std.specs.List.{AllByRecursion}
use Rattle.curve.specs.Tests.{and_left, and_right, both}
use Rattle.curve.specs.Limits.{knee_limit}
use Rattle.curve.specs.WrittenCurves.{written_fault}
use Rattle.curve.specs.declared.fault.CurveFault.{CurveFault}
use Rattle.curve.specs.declared.written.Written.{Written}
use Rattle.curve.specs.declared.written.Written.TheVariants.{Square, Band, Knees}
use Rattle.slots.specs.Slots.{bounds_hold, tolls_hold}
use Rattle.slots.specs.Slots.{proper, all_proper}
use Rattle.slots.specs.declared.slot.Slot.{Slot}
use Rattle.sheet.specs.Fields.{Values}
use Rattle.sheet.specs.Kinds.{kind_of_curve, knee_fields}
use Rattle.sheet.specs.RoundTrips.{SixKnees, MakesCurve}
use Rattle.sheet.specs.SlotFaults.{all_zero, unused_zero, slot_fault}
use Rattle.sheet.specs.SlotFields.{curve_of, curve_values, knee_levels, knee_steps, knee_values, used, as_written}
use Rattle.sheet.specs.declared.fault.RecordFault.TheVariants.{Curve}
use Rattle.sheet.proofs.Holding.{shown_levels, shown_steps, level_at, step_at}
use Rattle.sheet.proofs.KeptMeaning.{same_meaning}
use Rattle.sheet.proofs.KneeValues.{size_at}
use Rattle.sheet.specs.SlotFaultsLemmas.{curve_refused, no_fault_of_passes}

-- numbers past the count that are each zero
zeros : (xs : List ℕ) (count : ℕ) → ((k : ℕ) → count ≤ k → k < length xs → get_or xs k 0 ≡ 0) → all_zero (drop count xs) ≡ true
zeros [] zero each = refl
zeros [] (suc count) each = refl
zeros (x ∷ xs) zero each = both (eq-eqb x 0 (each 0 (omega arith) (omega arith))) (zeros xs zero (λ k past within. each (suc k) (omega arith) (omega arith)))
zeros (x ∷ xs) (suc count) each = zeros xs count (λ k past within. each (suc k) (omega arith) (omega arith))

unused_none : {X : Type 0} (count k : ℕ) (xs : List X) (nought : X) → count ≤ k → used count k xs nought ≡ nought
unused_none count k xs nought past = rw (le-ltb k count past)

either_way : (t b : Bool) → b ≡ true → cond t b true ≡ true
either_way true b e = e
either_way false b e = refl

-- the knees past the count are written as zero
kept_unused : (c : Written) → unused_zero (curve_of (kind_of_curve c) (curve_values c)) ≡ true
kept_unused (Square weight target) = refl
kept_unused (Band cold warm cold_rate warm_rate) = refl
kept_unused (Knees ground first count levels steps) =
    let ks : Values (knee_fields knee_limit) = knee_values knee_limit 0 count levels steps in
    let ls = knee_levels knee_limit ks in
    let ss = knee_steps knee_limit ks in
    let level : (k : ℕ) → count ≤ k → k < length ls → get_or ls k 0 ≡ 0 = λ k past within.
    level_at count levels steps knee_limit 0 k (omega (arith, shown_levels count levels steps knee_limit 0)) ∙ ap (λ (n : ℕ). used count n levels 0) (zero-add k) ∙ unused_none count k levels 0 past
    in
    let step : (k : ℕ) → count ≤ k → k < length (map nat_abs ss) → get_or (map nat_abs ss) k 0 ≡ 0 = λ k past within.
    size_at ss k
    ∙ ap nat_abs (step_at count levels steps knee_limit 0 k (omega (arith, shown_steps count levels steps knee_limit 0, length-map ss nat_abs)) ∙ ap (λ (n : ℕ). used count n steps (pos 0)) (zero-add k) ∙ unused_none count k steps (pos 0) past)
    in
    either_way (leb 1 count && leb count knee_limit) (all_zero (drop count ls) && all_zero (drop count (map nat_abs ss))) (both (zeros ls count level) (zeros (map nat_abs ss) count step))

-- a slot of a day, from whose numbers a curve can be made
pub kept_faultless : (s : Slot Written) → proper s ≡ true → MakesCurve s → slot_fault (as_written s) ≡ None
kept_faultless s fine makes =
    no_fault_of_passes (as_written s)
    (record {
      unused = kept_unused s.curve;
      curve = (same_meaning s.curve makes.0).fault ∙ makes.1;
      bounds = and_left (bounds_hold s) (tolls_hold s) fine;
      tolls = and_right (bounds_hold s) (tolls_hold s) fine;
    })

-- or none
pub kept_refused : (s : Slot Written) (fault : CurveFault) → SixKnees s.curve → written_fault s.curve ≡ Some fault → slot_fault (as_written s) ≡ Some (Curve fault)
kept_refused s fault six is = curve_refused (as_written s) fault (kept_unused s.curve) ((same_meaning s.curve six).fault ∙ is)

pub all_faultless : (slots : List (Slot Written)) → all_proper slots ≡ true → AllByRecursion MakesCurve slots → AllByRecursion (λ s. slot_fault (as_written s) ≡ None) slots
all_faultless [] fine makes = tt
all_faultless (s ∷ slots) fine makes = (kept_faultless s (and_left (proper s) (all_proper slots) fine) makes.0, all_faultless slots (and_right (proper s) (all_proper slots) fine) makes.1)

pub first_proper : (before after : List (Slot Written)) → all_proper (before ++ after) ≡ true → all_proper before ≡ true
first_proper [] after fine = refl
first_proper (s ∷ before) after fine = both (and_left (proper s) (all_proper (before ++ after)) fine) (first_proper before after (and_right (proper s) (all_proper (before ++ after)) fine))
