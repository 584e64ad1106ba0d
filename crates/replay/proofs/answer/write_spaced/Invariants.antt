use Rattle.std.proofs.Common.{◌≡◌, ℕ, List, take, Some}
use Rattle.std.specs.Fmt.{HasWritten, IsPlainFormatter}
use Rattle.replay.specs.Telling.{spaced}
use Rattle.replay.proofs.answer.write_spaced.Given as goal

abbrev pub invariant-loop-number : goal.invariant-loop-number
invariant-loop-number g l =
    (write : g.row.N.Denot → List ℕ) → ((x : g.row.N.Denot) → g.N.Display.output x ≡ Some (write x)) → IsPlainFormatter l.initial.f →
    HasWritten g.W.Write.write_str_gives l.initial.f (spaced write (take l.number-index l.numbers)) l.f
