use Rattle.std.proofs.Common.{take, sym, ap, ◌∙◌}
use Rattle.std.proofs.lemmas.List.{take_at}
use Rattle.day.specs.View.{plain}
use Rattle.sheet.specs.Sheets.{encode}
use Rattle.sheet.proofs.ReadsBack.{reads_back}
use Rattle.sheet.proofs.write.write.Goals as goal

pub returns-clause-back : goal.returns-clause-back
returns-clause-back c =
    let slots = c.slots-slots.result.now in
    let needed = c.sheet_length-needed.result in
    let sheet = ap (take needed) c.put_slots.ensures ∙ take_at (encode slots) _ needed (sym c.sheet_length-needed.ensures) ∙ ap encode c.slots-slots.ensures in
    reads_back (plain c.args.day.now).slots (take needed c.put_slots.new.out) c.args.day.now.proper sheet
