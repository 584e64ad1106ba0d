use Rattle.std.proofs.Common.{◌≡◌, ◌-◌, ◌<◌, Ok, length, arith, rules}
use Rattle.std.specs.Prelude.{MatchResult}
use Rattle.std.proofs.lemmas.List.{nil_from_length}
use Rattle.std.proofs.lemmas.Result.{err_from_is_err_and}
use Rattle.std.proofs.lemmas.Slice.{first_rest}
use Rattle.sheet.proofs.Reading.{nothing_left, record_refused, record_gives_slot}
use Rattle.sheet.proofs.reader.Reader.next.Goals as goal

pub returns-in_default : goal.returns-in_default
returns-in_default c =
    let left = c.args.self.now.left.now in
    let none : length left ≡ 0 = omega arith in
    nothing_left _ _ _ left (nil_from_length left none)

pub returns-in_err-taken : goal.returns-in_err-taken
returns-in_err-taken c =
    let p = err_from_is_err_and c.from_residual.result c.from_residual.ensures.1 in
    let r = c.args.self.now in
    let left = r.left.now in
    let some : 0 < length left = search rules in
    let place = length r.sheet.now - length left in
    let told : MatchResult c.record_for-taken.result (λ _. ⊥) (λ fault. c.in_err-taken.field-0.0 ≡ record { fault = fault; slot = r.slot; place = place }) = search rules in
    rw (p.1, p.2) (record_refused r.room r.slot _ left _ (first_rest left 0 some) _ place c.record_for-taken.result _ c.record_for-taken.ensures told)

pub returns : goal.returns
returns c =
    let r = c.args.self.now in
    let left = r.left.now in
    let some : 0 < length left = search rules in
    let told : c.record_for-taken.result ≡ Ok (c.in_ok-taken.taken, c.in_ok-taken.left) = search rules in
    let leaves = rw told at c.record_for-taken.ensures in
    record_gives_slot r.room r.slot _ left _ (first_rest left 0 some) r.sheet.now _ _ r.within leaves
