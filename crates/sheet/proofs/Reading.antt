-- What is left of a sheet, by its first record.
use Rattle.std.proofs.Common.{◌≡◌, ℕ, ◌+◌, ◌-◌, ◌<◌, ◌≤◌, List, [], ◌∷◌, length, Ok, Err, Result, sym, ap, ◌∙◌, ap₂, add-one, arith, length-drop}
use Rattle.std.specs.Prelude.{MatchResult}
use Rattle.curve.specs.declared.written.Written.{Written}
use Rattle.slots.specs.declared.slot.Slot.{Slot}
use Rattle.sheet.specs.Records.{Leaves}
use Rattle.sheet.specs.SheetFaults.{record_in, more_from, decode_by_record}
use Rattle.sheet.specs.Sheets.{go_on, followed_by, decode}
use Rattle.sheet.specs.declared.fault.RecordFault.{RecordFault}
use Rattle.sheet.specs.declared.fault.SheetFault.{SheetFault}

-- with no record there are no slots
pub nothing_left : (more slot place : ℕ) (left : List ℕ) → left ≡ [] → decode more slot place left ≡ Ok []
unfolding decode
nothing_left more slot place left none = rw none

module _ (room slot kind : ℕ) (left rest : List ℕ) (front : left ≡ kind ∷ rest) where
  -- a refused record refuses the sheet
  pub record_refused :
      {X : Type 0} (P : X → Type 0) (place : ℕ) (taken : Result X RecordFault) (told : SheetFault) →
      MatchResult taken P (λ fault. record_in room slot kind rest ≡ Err fault) →
      MatchResult taken (λ _. ⊥) (λ fault. told ≡ record { fault = fault; slot = slot; place = place }) →
      decode (room - slot) slot place left ≡ Err told
  record_refused P place (Ok x) told is e = absurd e
  record_refused P place (Err fault) told is e = rw (front, e) (decode_by_record room slot place kind rest ∙ rw is)

  -- a slot stands before those of the records after it, and fewer bytes are left
  pub record_gives_slot :
      (sheet after : List ℕ) (s : Slot Written) → length left ≤ length sheet → Leaves rest (record_in room slot kind rest) s after →
      (decode (room - slot) slot (length sheet - length left) left ≡ followed_by s (decode (room - (slot + 1)) (slot + 1) (length sheet - length after) after)) × (length after < length left)
  record_gives_slot sheet after s within leaves =
      let place = length sheet - length left in
      let n = leaves.0 in
      let size : length left ≡ length rest + 1 = rw front (sym (add-one (length rest))) in
      let gone : length after ≡ length rest - n = rw leaves.3 (length-drop n rest) in
      let next : place + (1 + n) ≡ length sheet - length after = omega (arith, leaves.2) in (
        ap (decode (room - slot) slot place) front
            ∙ decode_by_record room slot place kind rest
            ∙ ap (λ (taken : Result (Slot Written × ℕ) RecordFault). go_on slot place taken (more_from room slot place rest)) leaves.1
            ∙ ap₂ (λ (at : ℕ) (bytes : List ℕ). followed_by s (decode (room - (slot + 1)) (slot + 1) at bytes)) next (sym leaves.3),
        omega (arith, leaves.2),
      )
