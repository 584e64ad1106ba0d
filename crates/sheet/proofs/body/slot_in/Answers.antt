use Rattle.std.proofs.Common.{drop, refl, ap, ◌∙◌, arith}
use Rattle.std.proofs.lemmas.List.{drop-drop}
use Rattle.sheet.specs.Kinds.{curve_fields}
use Rattle.sheet.specs.SlotFields.{curve_of}
use Rattle.sheet.proofs.NextFields.{field_number, values_left}
use Rattle.sheet.proofs.body.slot_in.Goals as goal

pub returns : goal.returns
returns c =
    let kind = c.args.kind in
    let body = c.args.body.now in
    let after_low = c.next.ensures.left in
    let after_high = c.next-2.ensures.left ∙ ap (drop 2) after_low ∙ drop-drop 2 2 body in
    let after_up = c.next-3.ensures.left ∙ ap (drop 4) after_high ∙ drop-drop 4 4 body in
    let after_down = c.next-4.ensures.left ∙ ap (drop 4) after_up ∙ drop-drop 4 8 body in
    let low = c.from_be_bytes-low.ensures ∙ field_number 1 0 _ body body refl (omega arith) c.next.ensures.field in
    let high = c.from_be_bytes-high.ensures ∙ field_number 1 2 _ _ body after_low (omega arith) c.next-2.ensures.field in
    let up = c.from_be_bytes-up.ensures ∙ field_number 3 4 _ _ body after_high (omega arith) c.next-3.ensures.field in
    let down = c.from_be_bytes-down.ensures ∙ field_number 3 8 _ _ body after_up (omega arith) c.next-4.ensures.field in
    let curve = c.curve_in-curve.ensures ∙ ap (curve_of kind) (values_left (curve_fields kind) 12 body _ after_down) in
    cc
