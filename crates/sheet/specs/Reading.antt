-- Reading a sheet record by record: what the private functions of reading say. No public contract cites it.
use Rattle.std.specs.Prelude.{◌≡◌, ◌-◌, ◌<◌, List, [], length, Some, None, Ok, Err, Option, Result}
use Rattle.curve.specs.declared.written.Written.{Written}
use Rattle.slots.specs.declared.slot.Slot.{Slot}
use Rattle.sheet.specs.Sheets.{followed_by, decode}
use Rattle.sheet.specs.declared.fault.SheetFault.{SheetFault}
use Rattle.sheet.specs.declared.reader.Reader.{Reader}

-- the slots of the records that a reader has left
abbrev pub left_in : Reader → Result (List (Slot Written)) SheetFault
left_in r = decode (r.room - r.slot) r.slot (length r.sheet.now - length r.left.now) r.left.now

-- a reader gives nothing where none is left, the first slot, and then it has the others left, or the first record's fault
abbrev pub Gives : Reader → Result (Option (Slot Written)) SheetFault → Reader → Type 0
Gives before (Ok None) after = left_in before ≡ Ok []
Gives before (Ok (Some slot)) after = (left_in before ≡ followed_by slot (left_in after)) × (length after.left.now < length before.left.now)
Gives before (Err fault) after = left_in before ≡ Err fault
