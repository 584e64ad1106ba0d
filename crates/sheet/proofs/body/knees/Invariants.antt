use Rattle.sheet.proofs.NextFields.{KneesRead}
use Rattle.sheet.proofs.body.knees.Given as goal

-- the knees so far are read
abbrev pub invariant-loop-k : goal.invariant-loop-k
invariant-loop-k l = KneesRead l.initial.fields.left.now l.fields.left.now l.levels l.steps l.k
