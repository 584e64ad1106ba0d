-- The number of each reason why a record is refused, and what is said of it.
use Rattle.std.specs.Prelude.{ℕ, List, ◌++◌, codes, decimal}
use Rattle.curve.specs.Faults.{fault_number}
use Rattle.slots.specs.Refusals.{refusal_number}
use Rattle.sheet.specs.declared.fault.RecordFault.{RecordFault}
use Rattle.sheet.specs.declared.fault.SheetFault.{SheetFault}
use Rattle.sheet.specs.declared.fault.RecordFault.TheVariants.{UnknownKind, CutShort, UnusedKnee, Curve, Refused}

abbrev pub record_number : RecordFault → ℕ
record_number UnknownKind = 20
record_number CutShort = 21
record_number UnusedKnee = 22
record_number (Curve fault) = fault_number fault
record_number (Refused refusal) = refusal_number refusal

-- what is said of a fault: its number, the slot that its record was to be, and the place of the record's byte of kind
abbrev pub fault_text : SheetFault → List ℕ
fault_text f = codes "refused " ++ (decimal (record_number f.fault) ++ (codes " slot " ++ (decimal f.slot ++ (codes " byte " ++ decimal f.place))))
