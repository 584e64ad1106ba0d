use Rattle.std.proofs.Common.{◌≡◌, ◌<◌, ◌≤◌, length, Ok, arith, rules}
use Rattle.std.proofs.ByRecursion.{All-from_get_or}
use Rattle.std.proofs.lemmas.List.{length-take-le}
use Rattle.day.specs.View.{plain}
use Rattle.sheet.specs.Sheets.{decoded, answered, replaced}
use Rattle.sheet.proofs.MadeByEdits.{day_made_by_edits}
use Rattle.sheet.proofs.WritesBack.{day_writes_back}
use Rattle.sheet.proofs.read.read.Goals as goal

pub returns-clause-edits : goal.returns-clause-edits
returns-clause-edits c =
    let d = plain c.args.day.now in
    let sheet = c.args.sheet.now in
    let answer : Ok tt ≡ answered (decoded d.room sheet) = search rules in
    let after = c.fill.new.day in
    let day : plain after ≡ replaced d (decoded d.room sheet) = search rules in
    let count = length-take-le after.count after.slots.now after.stored in
    let fits : length (plain after).slots ≤ (plain after).room = omega (arith, after.stored, after.few) in
    day_made_by_edits d (plain after) sheet answer day after.proper fits

pub returns-clause-back : goal.returns-clause-back
returns-clause-back c =
    let d = plain c.args.day.now in
    let sheet = c.args.sheet.now in
    let answer : Ok tt ≡ answered (decoded d.room sheet) = search rules in
    let after = plain c.fill.new.day in
    let day : after ≡ replaced d (decoded d.room sheet) = search rules in
    day_writes_back d after sheet (All-from_get_or (λ b. b < 256) sheet 0 (λ i within. (c.type_inv.sheet i).fits)) answer day
