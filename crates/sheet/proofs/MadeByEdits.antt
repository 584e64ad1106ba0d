-- Reading a sheet makes the day that the edits make.
use Rattle.std.proofs.Common.{◌≡◌, ℕ, zero, suc, ◌+◌, ◌-◌, ◌≤◌, true, List, [], ◌∷◌, ◌++◌, length, take, Ok, Err, Result, sym, refl, ap, ◌∙◌, subst, append_assoc, arith, length-take, lt-ltb}
use Rattle.std.proofs.lemmas.List.{append-nil, length_push, nil_from_length}
use Rattle.curve.specs.Tests.{and_left, and_right}
use Rattle.curve.specs.declared.written.Written.{Written}
use Rattle.slots.specs.Slots.{bounds_hold, tolls_hold}
use Rattle.day.specs.PlainDay.{PlainDay}
use Rattle.slots.specs.Slots.{proper, all_proper}
use Rattle.slots.specs.declared.slot.Slot.{Slot}
use Rattle.sheet.specs.AsEdits.{after_drops, after_adds, MadeByEdits}
use Rattle.sheet.specs.Sheets.{decoded, answered, replaced}
use Rattle.sheet.specs.declared.fault.SheetFault.{SheetFault}

-- as many drops as there are slots leave none
drops_all : (n : ℕ) (room : ℕ) (slots : List (Slot Written)) → length slots ≡ n → after_drops n (record { room = room; slots = slots }) ≡ record { room = room; slots = [] }
drops_all zero room slots size = ap (λ (slots : List (Slot Written)). record { room = room; slots = slots }) (nil_from_length slots size)
drops_all (suc n) room slots size =
    let some = lt-ltb 0 (length slots) (omega arith) in
    let fewer : length (take (length slots - 1) slots) ≡ n = simp length-take (omega arith) in
    rw some (drops_all n room (take (length slots - 1) slots) fewer)

-- proper slots are all let in, where there is room
adds_all :
    (room : ℕ) (before slots : List (Slot Written)) → all_proper slots ≡ true → length before + length slots ≤ room →
    record { room = room; slots = before ++ slots } ≡ after_adds (record { room = room; slots = before }) slots
adds_all room before [] fine fits = ap (λ (slots : List (Slot Written)). record { room = room; slots = slots }) (append-nil before)
adds_all room before (s ∷ slots) fine fits =
    let first = and_left (proper s) (all_proper slots) fine in
    let bounds = and_left (bounds_hold s) (tolls_hold s) first in
    let tolls = and_right (bounds_hold s) (tolls_hold s) first in
    let free = lt-ltb (length before) room (omega arith) in
    let size = length_push before s in
    let behind = adds_all room (before ++ s ∷ []) slots (and_right (proper s) (all_proper slots) fine) (omega arith) in
    rw (bounds, tolls, free) (ap (λ (slots : List (Slot Written)). record { room = room; slots = slots }) (sym (append_assoc before (s ∷ []) slots)) ∙ behind)

pub made_by_edits : (d : PlainDay Written) (slots : List (Slot Written)) → all_proper slots ≡ true → length slots ≤ d.room → MadeByEdits d (record { room = d.room; slots = slots })
made_by_edits d slots fine fits =
    adds_all d.room [] slots fine (omega arith) ∙ ap (λ (d : PlainDay Written). after_adds d slots) (sym (drops_all (length d.slots) d.room d.slots refl))

-- a day that a sheet was read into
pub day_made_by_edits :
    (d after : PlainDay Written) (sheet : List ℕ) → Ok tt ≡ answered (decoded d.room sheet) → after ≡ replaced d (decoded d.room sheet) →
    all_proper after.slots ≡ true → length after.slots ≤ after.room → MadeByEdits d after
day_made_by_edits d after sheet = by_result (decoded d.room sheet)
  where
    by_result :
        (r : Result (List (Slot Written)) SheetFault) → Ok tt ≡ answered r → after ≡ replaced d r → all_proper after.slots ≡ true → length after.slots ≤ after.room → MadeByEdits d after
    by_result (Ok slots) told made fine fits =
        let P : PlainDay Written → Type 0 = λ e. all_proper e.slots ≡ true → length e.slots ≤ e.room → MadeByEdits d e in
        subst P (sym made) (λ fine fits. made_by_edits d slots fine fits) fine fits
    by_result (Err fault) told made fine fits = cc
