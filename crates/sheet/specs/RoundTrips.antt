-- Reading undoes writing, and writing undoes reading.
use Rattle.std.specs.Prelude.{◌≡◌, ℕ, ◌<◌, ◌≤◌, List, ◌∷◌, ◌++◌, map, length, Some, None, Ok, Err}
use Rattle.std.specs.List.{AllByRecursion}
use Rattle.curve.specs.Limits.{knee_limit}
use Rattle.curve.specs.WrittenCurves.{written_fault, written_ground, written_steps}
use Rattle.curve.specs.declared.fault.CurveFault.{CurveFault}
use Rattle.curve.specs.declared.written.Written.{Written}
use Rattle.curve.specs.declared.written.Written.TheVariants.{Square, Band, Knees}
use Rattle.slots.specs.declared.slot.Slot.{Slot}
use Rattle.sheet.specs.Fields.{AllHold}
use Rattle.sheet.specs.Kinds.{kind_of_curve, fields}
use Rattle.sheet.specs.SlotFields.{slot_values, as_written}
use Rattle.sheet.specs.Sheets.{encode, decoded}
use Rattle.sheet.specs.declared.fault.RecordFault.TheVariants.{Curve}

-- the numbers of a slot fit their fields, as those of every slot in memory do
abbrev pub Fitting : Slot Written → Type 0
Fitting s = AllHold (fields (kind_of_curve s.curve)) (slot_values s)

-- a knees curve has six levels and six steps, as every one in memory does
abbrev pub SixKnees : Written → Type 0
SixKnees (Square weight target) = Unit {0}
SixKnees (Band cold warm cold_rate warm_rate) = Unit {0}
SixKnees (Knees ground first count levels steps) = (length levels ≡ knee_limit) × (length steps ≡ knee_limit)

-- a curve can be made from a slot's numbers
abbrev pub MakesCurve : Slot Written → Type 0
MakesCurve s = SixKnees s.curve × (written_fault s.curve ≡ None)

-- two written curves mean the same, and where no curve can be made from one, none can be made from the other, for the same reason
pub record SameMeaning (c d : Written) : Type 0 where
  pub fault : written_fault c ≡ written_fault d
  pub ground : written_ground c ≡ written_ground d
  pub steps : (v : ℕ) → written_steps c v ≡ written_steps d v

-- slots that were read from a sheet: writing them gives the same bytes, curves can be made from all of them, and a sheet keeps each as it is
pub record WritesBack (slots : List (Slot Written)) (sheet : List ℕ) : Type 0 where
  pub bytes : encode slots ≡ sheet
  pub curves : AllByRecursion MakesCurve slots
  pub kept : map as_written slots ≡ slots

-- a sheet that a day's slots were written to
pub record ReadsBack (slots : List (Slot Written)) (sheet : List ℕ) : Type 0 where
  -- where curves can be made from all of them, it reads back as what it keeps of them, in any day that can hold them
  pub whole : AllByRecursion MakesCurve slots → (room : ℕ) → length slots ≤ room → decoded room sheet ≡ Ok (map as_written slots)
  -- the first from which none can be made is refused, with the curve's own fault
  pub refused :
      (before after : List (Slot Written)) (s : Slot Written) (fault : CurveFault) → slots ≡ before ++ s ∷ after → AllByRecursion MakesCurve before → Fitting s → SixKnees s.curve → written_fault s.curve ≡ Some fault →
      (room : ℕ) → length before < room → decoded room sheet ≡ Err (record { fault = Curve fault; slot = length before; place = length (encode before) })
  -- and what it keeps of a curve means what the curve means
  pub meaning : AllByRecursion (λ s. SixKnees s.curve → SameMeaning (as_written s).curve s.curve) slots
