use Rattle.std.proofs.Common.{[], get_or, take, ap, ◌∙◌, sym, arith}
use Rattle.std.proofs.lemmas.List.{take_more, flat_map_more}
use Rattle.std.proofs.lemmas.List.Folds.{length-flat_map-take}
use Rattle.std.specs.List.{flat_map}
use Rattle.sheet.specs.Records.{encode_slot}
use Rattle.sheet.specs.Sheets.{encode}
use Rattle.sheet.proofs.Overwriting.{puts_nothing, puts_then, puts_as}
use Rattle.sheet.proofs.RecordBytes.{blank, length_encode_slot}
use Rattle.sheet.proofs.write.put_slots.Goals as goal

pub loop-slot-init : goal.loop-slot-init
unfolding encode
loop-slot-init c = puts_nothing _ (omega arith)

pub put_slot-requires : goal.put_slot-requires
unfolding encode
put_slot-requires c =
    let slots = c.args.slots.now in
    let i = c.loop-slot.slot-index in
    let room = length-flat_map-take encode_slot slots i blank c.loop-slot-test.true in
    let size = length_encode_slot (get_or slots i blank) in
    omega (arith, c.loop-slot.invariant.place, c.loop-slot.invariant.size, c.requires)

pub loop-slot-preserved : goal.loop-slot-preserved
unfolding encode
loop-slot-preserved c =
    let slots = c.args.slots.now in
    let i = c.loop-slot.slot-index in
    let next = flat_map_more encode_slot [] (take i slots) (get_or slots i blank) ∙ ap (flat_map encode_slot) (sym (take_more slots i blank c.loop-slot-test.true)) in
    puts_as (puts_then c.loop-slot.invariant c.put_slot.ensures) next
