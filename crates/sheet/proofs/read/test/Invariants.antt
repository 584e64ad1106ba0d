use Rattle.std.proofs.Common.{◌≡◌, length}
use Rattle.sheet.specs.Reading.{left_in}
use Rattle.sheet.specs.Sheets.{decoded, answered}
use Rattle.sheet.proofs.read.test.Given as goal

-- what is left tells what the whole sheet does
abbrev pub invariant-loop : goal.invariant-loop
invariant-loop l = answered (left_in l.reader) ≡ answered (decoded l.room l.sheet)

abbrev pub decreases-loop : goal.decreases-loop
decreases-loop l = length l.reader.left.now
