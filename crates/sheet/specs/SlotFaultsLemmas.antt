-- What the tests of a record's slot tell, one after another.
use Rattle.std.specs.Prelude.{◌≡◌, Bool, true, false, [], ◌∷◌, Some, None, Ok, Err, Option, refl}
use Rattle.std.specs.Option.{option_map}
use Rattle.curve.specs.Answers.{broken}
use Rattle.curve.specs.WrittenCurves.{written_fault}
use Rattle.curve.specs.declared.fault.CurveFault.{CurveFault}
use Rattle.curve.specs.declared.written.Written.{Written}
use Rattle.slots.specs.Slots.{bounds_hold, tolls_hold}
use Rattle.slots.specs.declared.refusal.Refusal.{Refusal}
use Rattle.slots.specs.declared.refusal.Refusal.TheVariants.{Bounds, Toll}
use Rattle.slots.specs.declared.slot.Slot.{Slot}
use Rattle.sheet.specs.SlotFaults.{unused_zero, first_fault, slot_fault, unless_fault}
use Rattle.sheet.specs.declared.fault.RecordFault.TheVariants.{UnusedKnee, Curve, Refused}

pub fault_of_refusal : {X F : Type 0} (fault : Option F) (x : X) (f : F) → Err f ≡ unless_fault fault x → fault ≡ Some f
fault_of_refusal None x f e = cc
fault_of_refusal (Some fault) x f e = cc

pub no_fault : {X F : Type 0} (fault : Option F) (x y : X) → Ok y ≡ unless_fault fault x → fault ≡ None
no_fault None x y e = refl
no_fault (Some fault) x y e = cc

-- the rules of a day with room, for a slot
abbrev pub day_refusal : Slot Written → Option Refusal
day_refusal s = broken ((bounds_hold s, Bounds) ∷ (tolls_hold s, Toll) ∷ [])

pub curve_refused : (s : Slot Written) (f : CurveFault) → unused_zero s.curve ≡ true → written_fault s.curve ≡ Some f → slot_fault s ≡ Some (Curve f)
curve_refused s f unused fault = rw (unused, fault)

pub day_refused : (s : Slot Written) (r : Refusal) → unused_zero s.curve ≡ true → written_fault s.curve ≡ None → day_refusal s ≡ Some r → slot_fault s ≡ Some (Refused r)
day_refused s r unused curve refusal = rw (unused, curve, refusal)

-- a slot with no fault has passed every test
pub record Passes (s : Slot Written) : Type 0 where
  pub unused : unused_zero s.curve ≡ true
  pub curve : written_fault s.curve ≡ None
  pub bounds : bounds_hold s ≡ true
  pub tolls : tolls_hold s ≡ true

pub passes : (s : Slot Written) → slot_fault s ≡ None → Passes s
passes s = by_tests (unused_zero s.curve) refl (written_fault s.curve) refl (bounds_hold s) refl (tolls_hold s) refl
  where
    by_tests :
        (u : Bool) → unused_zero s.curve ≡ u → (f : Option CurveFault) → written_fault s.curve ≡ f → (b : Bool) → bounds_hold s ≡ b → (t : Bool) → tolls_hold s ≡ t →
        first_fault (broken ((u, UnusedKnee) ∷ []) ∷ option_map Curve f ∷ option_map Refused (broken ((b, Bounds) ∷ (t, Toll) ∷ [])) ∷ []) ≡ None → Passes s
    by_tests false pu f pf b pb t pt e = cc
    by_tests true pu (Some fault) pf b pb t pt e = cc
    by_tests true pu None pf false pb t pt e = cc
    by_tests true pu None pf true pb false pt e = cc
    by_tests true pu None pf true pb true pt e = record { unused = pu; curve = pf; bounds = pb; tolls = pt }

-- and the other way round
pub no_fault_of_passes : (s : Slot Written) → Passes s → slot_fault s ≡ None
no_fault_of_passes s p = rw (p.unused, p.curve, p.bounds, p.tolls)
