use Rattle.std.proofs.Common.{◌≡◌, take, vec_items}
use Rattle.replay.specs.Promise.{Follows}
use Rattle.day.specs.View.{plain, memory_of, empty_day}
use Rattle.replay.proofs.Runs.{Ran}
use Rattle.replay.proofs.replay.replay.Given as goal

-- the calls so far were made, over the memory that was lent, and each has its moment
abbrev pub invariant-loop-made : goal.invariant-loop-made
invariant-loop-made g l =
    let memory = memory_of l.initial.day in
    let calls = take l.made-counter l.calls in
    (l.day.slots.ghost_name ≡ l.initial.day.slots.ghost_name)
    × Ran g.R.Sheets.decoded memory calls (plain l.day) (memory_of l.day)
    × Follows g.C.Curve.ground g.C.Curve.steps g.R.Sheets.decoded (empty_day memory) calls (vec_items l.moments)
