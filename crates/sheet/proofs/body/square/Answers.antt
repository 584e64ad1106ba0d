use Rattle.std.proofs.Common.{refl, ◌∙◌, ap₂, arith}
use Rattle.curve.specs.declared.written.Written.TheVariants.{Square}
use Rattle.sheet.proofs.NextFields.{field_number}
use Rattle.sheet.proofs.body.square.Goals as goal

pub returns : goal.returns
returns c =
    let left = c.args.fields.now.left.now in
    let weight = field_number 3 0 _ left left refl (omega arith) c.next.ensures.field in
    let target = field_number 1 4 _ _ left c.next.ensures.left (omega arith) c.next-2.ensures.field in
    ap₂ Square (c.from_be_bytes-weight.ensures ∙ weight) (c.from_be_bytes-target.ensures ∙ target)
