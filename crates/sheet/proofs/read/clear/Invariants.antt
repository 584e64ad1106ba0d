use Rattle.std.proofs.Common.{◌≡◌}
use Rattle.day.specs.View.{memory_of}
use Rattle.sheet.proofs.read.clear.Given as goal

-- the memory stays as it was lent
abbrev pub invariant-loop : goal.invariant-loop
invariant-loop l = (memory_of l.day ≡ memory_of l.initial.day) × (l.day.slots.ghost_name ≡ l.initial.day.slots.ghost_name)

abbrev pub decreases-loop : goal.decreases-loop
decreases-loop l = l.day.count
