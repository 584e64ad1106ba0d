use Rattle.std.proofs.Common.{◌≡◌, ◌%◌, [], length, ◌∙◌, rules}
use Rattle.std.proofs.Math.ListN.{length-set}
use Rattle.script.specs.Answers.{texts}
use Rattle.script.proofs.Texts.{many}
use Rattle.script.proofs.Knots.{knots_odd, pair, knots_more, knots_past}
use Rattle.script.proofs.line.knots_of.Goals as goal
use Rattle.script.proofs.line.knots_of.Goals.{then-i-lt-KNEE_LIMIT, else-i-lt-KNEE_LIMIT}

pub returns-in_default : goal.returns-in_default
returns-in_default c =
    let odd : length c.args.words.now % 2 ≡ 1 = search rules in
    knots_odd 0 _ _ (texts c.args.words.now) (rw (many c.args.words.now) odd)

pub returns-in_err-level : goal.returns-in_err-level
returns-in_err-level c =
    let both = pair c.args.words.now c.as_chunks.result.0.now [] c.loop-i.i c.as_chunks.ensures.front (search rules) in
    search rules

pub returns-in_err-step : goal.returns-in_err-step
returns-in_err-step c =
    let both = pair c.args.words.now c.as_chunks.result.0.now [] c.loop-i.i c.as_chunks.ensures.front (search rules) in
    search rules

pub loop-i-preserved : goal.loop-i-preserved
loop-i-preserved c =
    let (six_levels, six_steps, said) = c.loop-i.invariant in
    elim c.if-i-lt-KNEE_LIMIT.branch [
      | then-i-lt-KNEE_LIMIT w ↦
          rw (w.levels-is, w.steps-is) (
            rw length-set six_levels,
            rw length-set six_steps,
            said
                ∙ knots_more c.args.words.now c.as_chunks.result.0.now _ c.loop-i.i c.as_chunks.ensures.front (search rules) c.loop-i.levels c.loop-i.steps c.in_ok-level.level _ c.in_ok-level.ensures (search rules),
          )
      | else-i-lt-KNEE_LIMIT w ↦
          rw (w.levels-is, w.steps-is) (
            six_levels,
            six_steps,
            said
                ∙ knots_past c.args.words.now c.as_chunks.result.0.now _ c.loop-i.i c.as_chunks.ensures.front (search rules) c.loop-i.levels c.loop-i.steps c.in_ok-level.level _ c.in_ok-level.ensures c.in_ok-step.ensures six_levels six_steps w.if-i-lt-KNEE_LIMIT.false,
          )
    ]
