use Rattle.std.proofs.Common.{sym, ◌∙◌, w32}
use Rattle.std.proofs.lemmas.Slice.Zip.{either_empty_from_Zip}
use Rattle.std.proofs.lemmas.Int.{to_z-of_z}
use Rattle.curve.specs.KneeStepsLemmas.{step_at_end}
use Rattle.curve.proofs.knots.step_at.Goals as goal

pub returns : goal.returns
returns c =
    let over = either_empty_from_Zip c.loop-knee.knee-iterator c.next.new.self c.next.result c.in-None.is c.next.ensures.steps in
    let inv = rw (to_z-of_z w32 c.args.first c.ranges.first) at c.loop-knee.invariant in
    sym (inv ∙ step_at_end c.args.level _ _ _ over)
