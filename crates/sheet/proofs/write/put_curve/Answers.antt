use Rattle.std.proofs.Common.{◌<◌, ℤ, ap, ◌∙◌, w32, w64, SFits, of_z, rules}
use Rattle.std.proofs.lemmas.Int.{to_z-of_z}
use Rattle.sheet.specs.Numbers.{big_endian}
use Rattle.sheet.proofs.Overwriting.{puts_then, puts_as, puts_number, puts_last, one_byte}
use Rattle.sheet.proofs.write.put_curve.Goals as goal

pub returns-in-Square : goal.returns-in-Square
returns-in-Square c =
    let weight = puts_number 4 _ c.put.ensures c.to_be_bytes.ensures in
    let target = puts_number 2 _ c.put-in-Square.ensures c.to_be_bytes-in-Square.ensures in
    rw c.in-Square.is (puts_then weight (puts_last target))

pub returns-in-Band : goal.returns-in-Band
returns-in-Band c =
    let cold = puts_number 2 _ c.put-in-Band.ensures c.to_be_bytes-in-Band.ensures in
    let warm = puts_number 2 _ c.put-in-Band-2.ensures c.to_be_bytes-in-Band-2.ensures in
    let cold_rate = puts_number 4 _ c.put-in-Band-3.ensures c.to_be_bytes-in-Band-3.ensures in
    let warm_rate = puts_number 4 _ c.put-in-Band-4.ensures c.to_be_bytes-in-Band-4.ensures in
    rw c.in-Band.is (puts_then cold (puts_then warm (puts_then cold_rate (puts_last warm_rate))))

pub returns-in-Knees : goal.returns-in-Knees
returns-in-Knees c =
    let fits_ground : SFits w64 c.in-Knees.ground = search rules in
    let fits_first : SFits w32 c.in-Knees.first = search rules in
    let ground = puts_as (puts_number 8 _ c.put-in-Knees.ensures c.to_be_bytes-in-Knees.ensures) (ap (λ (z : ℤ). big_endian 8 (of_z w64 z)) (to_z-of_z w64 _ fits_ground)) in
    let first = puts_as (puts_number 4 _ c.put-in-Knees-2.ensures c.to_be_bytes-in-Knees-2.ensures) (ap (λ (z : ℤ). big_endian 4 (of_z w32 z)) (to_z-of_z w32 _ fits_first)) in
    let small : c.in-Knees.count < 256 = search rules in
    let count = puts_as c.put-in-Knees-3.ensures (c.to_be_bytes-in-Knees-3.ensures ∙ one_byte _ small) in
    rw c.in-Knees.is (puts_then ground (puts_then first (puts_then count c.put_knees.ensures)))
