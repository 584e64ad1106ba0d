use Rattle.std.proofs.Common.{◌≡◌, ◌*◌, length, drop, pos}
use Rattle.script.specs.Answers.{texts}
use Rattle.script.specs.Reading.{knots_of, zeros}
use Rattle.script.proofs.line.knots_of.Given as goal

abbrev pub invariant-loop-i : goal.invariant-loop-i
invariant-loop-i l =
    (length l.levels ≡ 6) × (length l.steps ≡ 6)
    × (knots_of 0 (zeros 0) (zeros (pos 0)) (texts l.words) ≡ knots_of l.i l.levels l.steps (texts (drop (2 * l.i) l.words)))
