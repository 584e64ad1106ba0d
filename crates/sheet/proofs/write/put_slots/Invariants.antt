use Rattle.std.proofs.Common.{take}
use Rattle.sheet.specs.Buffers.{Puts}
use Rattle.sheet.specs.Sheets.{encode}
use Rattle.sheet.proofs.write.put_slots.Given as goal

-- the slots so far are written
abbrev pub invariant-loop-slot : goal.invariant-loop-slot
invariant-loop-slot l = Puts l.initial.writer (encode (take l.slot-index l.slots)) l.writer
