use Rattle.std.proofs.Common.{drop, refl, ap, ◌∙◌, arith}
use Rattle.std.proofs.lemmas.List.{drop-drop}
use Rattle.sheet.proofs.NextFields.{field_number}
use Rattle.sheet.proofs.body.band.Goals as goal

pub returns : goal.returns
returns c =
    let left = c.args.fields.now.left.now in
    let after_cold = c.next.ensures.left in
    let after_warm = c.next-2.ensures.left ∙ ap (drop 2) after_cold ∙ drop-drop 2 2 left in
    let after_rate = c.next-3.ensures.left ∙ ap (drop 4) after_warm ∙ drop-drop 4 4 left in
    let cold = c.from_be_bytes-cold.ensures ∙ field_number 1 0 _ left left refl (omega arith) c.next.ensures.field in
    let warm = c.from_be_bytes-warm.ensures ∙ field_number 1 2 _ _ left after_cold (omega arith) c.next-2.ensures.field in
    let cold_rate = c.from_be_bytes-cold_rate.ensures ∙ field_number 3 4 _ _ left after_warm (omega arith) c.next-3.ensures.field in
    let warm_rate = c.from_be_bytes-warm_rate.ensures ∙ field_number 3 8 _ _ left after_rate (omega arith) c.next-4.ensures.field in
    cc
