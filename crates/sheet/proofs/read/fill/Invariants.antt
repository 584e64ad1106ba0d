use Rattle.std.proofs.Common.{◌≡◌, length}
use Rattle.day.specs.View.{plain, memory_of}
use Rattle.sheet.specs.Reading.{left_in}
use Rattle.sheet.proofs.Filling.{Filled}
use Rattle.sheet.proofs.read.fill.Given as goal

-- the slots so far are those of the day
abbrev pub invariant-loop-slot : goal.invariant-loop-slot
invariant-loop-slot l = Filled l.sheet (memory_of l.initial.day) (plain l.day) (memory_of l.day) (left_in l.reader) × (l.day.slots.ghost_name ≡ l.initial.day.slots.ghost_name)

abbrev pub decreases-loop-slot : goal.decreases-loop-slot
decreases-loop-slot l = length l.reader.left.now
