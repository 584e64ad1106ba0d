use Rattle.std.proofs.Common.{refl, ◌∙◌}
use Rattle.replay.proofs.replay.note.Goals as goal

pub returns : goal.returns
returns g c = (record { answer = c.args.answer; slots = c.in_ok-slots.slots }, c.in_ok-push.ensures.items, refl, c.in_ok-slots.ensures.items ∙ c.slots.ensures)
