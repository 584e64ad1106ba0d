use Rattle.std.proofs.Common.{ℕ, [], ◌∷◌, ap, ◌∙◌}
use Rattle.sheet.specs.Kinds.{kind_byte}
use Rattle.sheet.specs.Records.{encode_slot}
use Rattle.sheet.proofs.Overwriting.{puts_then, puts_as, puts_number}
use Rattle.sheet.proofs.write.put_slot.Goals as goal

pub returns : goal.returns
unfolding encode_slot
returns c =
    let kind = puts_as c.put.ensures (ap (λ (b : ℕ). b ∷ []) (c.byte.ensures ∙ ap kind_byte c.from.ensures)) in
    let low = puts_number 2 _ c.put-2.ensures c.to_be_bytes.ensures in
    let high = puts_number 2 _ c.put-3.ensures c.to_be_bytes-2.ensures in
    let up = puts_number 4 _ c.put-4.ensures c.to_be_bytes-3.ensures in
    let down = puts_number 4 _ c.put-5.ensures c.to_be_bytes-4.ensures in
    puts_then kind (puts_then low (puts_then high (puts_then up (puts_then down c.put_curve.ensures))))
