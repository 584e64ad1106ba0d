use Rattle.std.proofs.Common.{◌≡◌, map, get_or, Some, vec_items, ap, ◌∙◌, rules}
use Rattle.std.proofs.lemmas.List.{map_push}
use Rattle.script.specs.Answers.{plain_line}
use Rattle.script.specs.Entries.{entry_call}
use Rattle.script.specs.Reading.{line_of}
use Rattle.script.specs.Words.{cut}
use Rattle.script.proofs.Texts.{no_word}
use Rattle.script.proofs.Readings.{nonempty, line_opens, line_calls}
use Rattle.script.proofs.parse.read_lines.Goals as goal
use Rattle.script.proofs.parse.read_lines.Goals.{in-Open, in-Call+in_ok-push-in-Call}

pub loop-i-preserved : goal.loop-i-preserved
loop-i-preserved c =
    let lines = c.args.lines.now in
    let i = c.loop-i.i-counter in
    let line = (get_or lines i no_word).now in
    let some = nonempty line c.is_empty.result c.if-is_empty.false c.is_empty.ensures in
    let before = c.loop-i.script in
    let said : line_of c.loop-i.first (cut 32 line) ≡ Some (plain_line c.in_ok-slots.field-0) = search rules in
    elim c.match-branch-2.branch [
      | in-Open w ↦
          rw (w.script-is, w.first-is)
          (c.loop-i.invariant
          ∙ line_opens lines i c.loop-i.first before.slots (map entry_call (vec_items before.entries)) w.in-Open.slots c.loop-i-test.true some (said ∙ ap (λ l. Some (plain_line l)) w.in-Open.is))
      | in-Call+in_ok-push-in-Call w ↦
          rw (w.script-is, w.first-is)
          (c.loop-i.invariant
          ∙ line_calls lines i c.loop-i.first before.slots (map entry_call (vec_items before.entries)) (entry_call w.in-Call.entry) (map entry_call (vec_items w.push.new.self)) c.loop-i-test.true some (said ∙ ap (λ l. Some (plain_line l)) w.in-Call.is)
          (ap (map entry_call) w.in_ok-push-in-Call.ensures.items ∙ map_push entry_call (vec_items before.entries) _))
    ]
