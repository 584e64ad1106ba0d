-- Why a slot is not taken from a record.
use Rattle.std.specs.Prelude.{ℕ, Bool, true, cond, ◌&&◌, List, [], ◌∷◌, map, drop, Some, None, Ok, Err, Option, Result, ◌==◌, nat_le, unsigned_abs}
use Rattle.std.specs.List.{list_all}
use Rattle.std.specs.Option.{option_map}
use Rattle.curve.specs.Answers.{broken}
use Rattle.curve.specs.Limits.{knee_limit}
use Rattle.curve.specs.WrittenCurves.{written_fault}
use Rattle.curve.specs.declared.written.Written.{Written}
use Rattle.curve.specs.declared.written.Written.TheVariants.{Square, Band, Knees}
use Rattle.slots.specs.Refusals.{slot_refusal}
use Rattle.slots.specs.declared.slot.Slot.{Slot}
use Rattle.sheet.specs.declared.fault.RecordFault.{RecordFault}
use Rattle.sheet.specs.declared.fault.RecordFault.TheVariants.{UnusedKnee, Curve, Refused}

-- numbers are all 0
abbrev pub all_zero : List ℕ → Bool
all_zero ns = list_all (λ n. n == 0) ns

-- the knees past the count are 0; a count that no curve has leaves this to the curve
abbrev pub unused_zero : Written → Bool
unused_zero (Square weight target) = true
unused_zero (Band cold warm cold_rate warm_rate) = true
unused_zero (Knees base first count levels steps) =
    cond (nat_le 1 count && nat_le count knee_limit) (all_zero (drop count levels) && all_zero (drop count (map unsigned_abs steps))) true

-- the first fault of several, in their order
abbrev pub first_fault : {F : Type 0} → List (Option F) → Option F
first_fault [] = None
first_fault (None ∷ more) = first_fault more
first_fault (Some fault ∷ more) = Some fault

-- why a slot is not taken from a record
abbrev pub slot_fault : Slot Written → Option RecordFault
slot_fault s =
    first_fault
    (broken ((unused_zero s.curve, UnusedKnee) ∷ [])
    ∷ option_map Curve (written_fault s.curve)
    ∷ option_map Refused (slot_refusal s)
    ∷ [])

-- a fault, or where there is none, a value
abbrev pub unless_fault : {X F : Type 0} → Option F → X → Result X F
unless_fault None x = Ok x
unless_fault (Some fault) x = Err fault
