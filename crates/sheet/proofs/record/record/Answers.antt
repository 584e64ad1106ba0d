use Rattle.std.proofs.Common.{◌≡◌, ap, ◌∙◌, arith}
use Rattle.std.proofs.lemmas.Result.{err_from_is_err_and}
use Rattle.sheet.specs.SlotFields.{slot_in}
use Rattle.sheet.specs.declared.fault.RecordFault.TheVariants.{CutShort}
use Rattle.sheet.proofs.Decoding.{known_by, record_unknown, record_cut, record_refused, record_taken}
use Rattle.sheet.proofs.record.record.Goals as goal

pub returns-in_err-kind : goal.returns-in_err-kind
returns-in_err-kind c =
    let p = err_from_is_err_and c.from_residual.result c.from_residual.ensures.1 in
    rw (p.1, p.2) (record_unknown c.args.kind c.args.rest.now _ c.in_err-kind.ensures)

pub returns-in_err-body : goal.returns-in_err-body
returns-in_err-body c =
    let p = err_from_is_err_and c.from_residual-in_err-body.result c.from_residual-in_err-body.ensures.1 in
    let short = rw c.in_err-body.ensures.ok_part at c.split_at_checked.ensures.cases in
    let why = rw c.in_err-body.ensures.ok_part at c.in_err-body.ensures.value in
    let fault : c.in_err-body.field-0.0 ≡ CutShort = cc why in
    rw (p.1, p.2, fault) (record_cut c.in_ok-kind.kind c.args.kind c.args.rest.now (known_by _ _ c.in_ok-kind.ensures) (omega (arith, c.body_length.ensures)))

pub returns-in_err-test : goal.returns-in_err-test
returns-in_err-test c =
    let p = err_from_is_err_and c.from_residual-in_err-test.result c.from_residual-in_err-test.ensures.1 in
    let split = rw c.in_ok-body.ensures.ok_part at c.split_at_checked.ensures.cases in
    let cut = rw c.body_length.ensures at split.1 in
    rw (p.1, p.2) (
    record_refused c.in_ok-kind.kind c.args.kind c.args.rest.now (known_by _ _ c.in_ok-kind.ensures) c.slot_in-slot.result _
    (omega (arith, c.body_length.ensures)) (c.slot_in-slot.ensures ∙ ap (slot_in c.in_ok-kind.kind) cut) c.in_err-test.ensures)

pub returns : goal.returns
returns c =
    let split = rw c.in_ok-body.ensures.ok_part at c.split_at_checked.ensures.cases in
    let cut = rw c.body_length.ensures at split.1 in
    let taken =
    record_taken c.in_ok-kind.kind c.args.kind c.args.rest.now (known_by _ _ c.in_ok-kind.ensures) c.slot_in-slot.result
    (omega (arith, c.body_length.ensures)) (c.slot_in-slot.ensures ∙ ap (slot_in c.in_ok-kind.kind) cut) c.in_ok-test.ensures
    in
    (_, taken, omega (arith, c.body_length.ensures), rw c.body_length.ensures at split.2)
