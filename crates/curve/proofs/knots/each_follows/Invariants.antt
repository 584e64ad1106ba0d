use Rattle.std.proofs.Common.{◌≡◌, Bool, drop}
use Rattle.curve.specs.KneeSteps.{each_follows}
use Rattle.curve.proofs.knots.each_follows.Given as goal

abbrev pub invariant-loop-number : goal.invariant-loop-number
invariant-loop-number g l =
    (rule : g.row.T.Denot → g.row.T.Denot → Bool)
    → ((before number : g.row.T.Denot) (r : Bool) → goal.F-post g l.follows before number r → r ≡ rule before number)
    → each_follows rule l.fn.first l.numbers ≡ each_follows rule l.before (drop l.number-index l.numbers)
