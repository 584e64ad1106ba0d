use Rattle.std.proofs.Common.{◌≡◌, ◌+◌, take, sym, ◌∙◌, rules}
use Rattle.std.proofs.lemmas.List.{take_all}
use Rattle.std.proofs.lemmas.Result.{err_from_is_err_and}
use Rattle.replay.specs.PlainRun.{memory_after_all}
use Rattle.day.specs.View.{plain, memory_of, empty_day}
use Rattle.replay.proofs.Mapped.{was_ok, was_err, mapped_from}
use Rattle.replay.proofs.Promised.{promised}
use Rattle.replay.proofs.Runs.{Ran, ran_more, follows_more, answered_from}
use Rattle.replay.proofs.replay.replay.Given as given
use Rattle.replay.proofs.replay.replay.Goals as goal
use Rattle.replay.proofs.replay.replay.Goals.{After-make}

-- the call of this turn is made
ran_next : (g : given.Over) (c : After-make g) → Ran g.R.Sheets.decoded (memory_of c.open-day.result) (take (c.loop-made.made-counter + 1) c.args.calls.now) (plain c.make.new.day) (memory_of c.make.new.day)
ran_next g c =
    ran_more _ _ _ _ c.index-calls-made.result c.loop-made-test.true c.index-calls-made.is _ _ c.loop-made.invariant.1 _ _ c.make.ensures.day c.make.ensures.memory

pub returns-in_err-answer-clause-memory : goal.returns-in_err-answer-clause-memory
returns-in_err-answer-clause-memory g c =
    let fault = err_from_is_err_and c.from_residual.result c.from_residual.ensures.1 in
    let unmade = was_err c.make.result c.map_err.result c.in_err-answer.field-0.0 _ c.in_err-answer.was c.map_err.ensures.cases c.make.ensures.unmade in
    let cause = mapped_from c.make.result c.map_err.result c.in_err-answer.field-0.0 _ c.in_err-answer.was c.map_err.ensures.cases in
    let so_far = c.loop-made.invariant.1.held_is in
    let opened = c.open-day.ensures.memory in
    let because = cause.1 in
    let count : c.in_err-answer.field-0.0 ≡ record { made = c.loop-made.made-counter } = search rules in
    let held : memory_of c.make.new.day ≡ memory_after_all g.R.Sheets.decoded (empty_day c.args.memory.now) c.args.memory.now (take c.loop-made.made-counter c.args.calls.now) = cc in
    rw (fault.1, fault.2, count, ← held) (search rules)

pub returns-in_err-map_err-clause-memory : goal.returns-in_err-map_err-clause-memory
returns-in_err-map_err-clause-memory g c =
    let fault = err_from_is_err_and c.from_residual-in_err-map_err.result c.from_residual-in_err-map_err.ensures.1 in
    let cause = mapped_from c.note.result c.map_err-in-loop-made.result c.in_err-map_err.field-0.0 _ c.in_err-map_err.was c.map_err-in-loop-made.ensures.cases in
    let now_held = (ran_next g (goal.at.returns-in_err-map_err-clause-memory g c).After-make).held_is in
    let opened = c.open-day.ensures.memory in
    let because = cause.1 in
    let count : c.in_err-map_err.field-0.0 ≡ record { made = c.loop-made.made-counter + 1 } = search rules in
    let held : memory_of c.make.new.day ≡ memory_after_all g.R.Sheets.decoded (empty_day c.args.memory.now) c.args.memory.now (take (c.loop-made.made-counter + 1) c.args.calls.now) = cc in
    rw (fault.1, fault.2, count, ← held) (search rules)

pub loop-made-preserved : goal.loop-made-preserved
loop-made-preserved g c =
    let made = c.make.ensures in
    let answered = was_ok c.make.result c.map_err.result c.in_ok-answer.answer _ c.in_ok-answer.was c.map_err.ensures.cases in
    let told = rw answered at made.answer in
    let leaning = rw answered at made.leaning in
    let kept = was_ok c.note.result c.map_err-in-loop-made.result c.in_ok-map_err.field-0 _ c.in_ok-map_err.was c.map_err-in-loop-made.ensures.cases in
    let noted = rw kept at c.note.ensures in
    let moment = answered_from g.R.Sheets.decoded g.C.Curve.ground g.C.Curve.steps _ _ _ noted.0 _ noted.2 noted.3 made.day told leaning in
    let follows = follows_more _ _ _ _ c.index-calls-made.result c.loop-made-test.true c.index-calls-made.is _ _ c.loop-made.invariant.1 _ _ _ _ _ c.loop-made.invariant.2 noted.1 moment in
    (made.lender ∙ c.loop-made.invariant.0, ran_next g (goal.at.loop-made-preserved g c).After-make, follows)

pub returns : goal.returns
returns g c =
    let whole : take c.loop-made.made-counter c.args.calls.now ≡ c.args.calls.now = take_all c.loop-made.made-counter c.args.calls.now c.loop-made-test.false in
    let so_far = c.loop-made.invariant.1.held_is in
    let opened = c.open-day.ensures.memory in
    let held : memory_of c.loop-made.day ≡ memory_after_all g.R.Sheets.decoded (empty_day c.args.memory.now) c.args.memory.now c.args.calls.now = cc in
    record {
      promise = promised g.C.Curve.ground g.C.Curve.steps g.R.Sheets.decoded g.met.C.Curve.rising g.met.R.Sheets.proper _ _ _ (rw (whole, opened) at c.loop-made.invariant.2);
      memory = rw (sym held) (search rules);
    }
