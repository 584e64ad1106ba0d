use Rattle.std.proofs.Common.{◌≡◌, ◌+◌, true, map, drop, vec_items}
use Rattle.script.specs.Answers.{texts}
use Rattle.script.specs.Entries.{entry_call}
use Rattle.script.specs.Reading.{lines_from}
use Rattle.script.proofs.Readings.{after}
use Rattle.script.proofs.parse.read_lines.Given as goal

abbrev pub invariant-loop-i : goal.invariant-loop-i
invariant-loop-i l =
    lines_from true 192 1 (texts l.lines) ≡ after (map entry_call (vec_items l.script.entries)) (lines_from l.first l.script.slots (l.i-counter + 1) (texts (drop l.i-counter l.lines)))
