-- Decoding a sheet record by record: what is left of it answers what the whole of it does.
use Rattle.std.specs.Prelude.{◌≡◌, ℕ, suc, ◌+◌, ◌-◌, ◌<◌, ◌≤◌, Bool, true, false, cond, List, [], ◌∷◌, length, take, drop, Some, None, Ok, Err, Option, Result, nat_le, nat_lt, refl}
use Rattle.std.proofs.Common.{sym, ◌∙◌, ap, arith, ltb-true, ltb-false, leb-true}
use Rattle.curve.specs.declared.written.Written.{Written}
use Rattle.slots.specs.declared.refusal.Refusal.TheVariants.{Full}
use Rattle.slots.specs.declared.slot.Slot.{Slot}
use Rattle.sheet.specs.Kinds.{kind_of, body_length}
use Rattle.sheet.specs.declared.kinds.Kind.{Kind}
use Rattle.sheet.specs.Records.{decode_body, decode_record}
use Rattle.sheet.specs.SlotFaults.{slot_fault, unless_fault}
use Rattle.sheet.specs.SlotFields.{slot_in}
use Rattle.sheet.specs.Sheets.{followed_by, go_on, decode, answered}
use Rattle.sheet.specs.declared.fault.RecordFault.{RecordFault}
use Rattle.sheet.specs.declared.fault.RecordFault.TheVariants.{Refused, CutShort}
use Rattle.sheet.specs.declared.fault.SheetFault.{SheetFault}

-- a record that gives a slot has its whole body, and the slot no fault
pub record_gives : (byte : ℕ) (rest : List ℕ) (s : Slot Written) (n : ℕ) → decode_record byte rest ≡ Ok (s, n) → (n ≤ length rest) × (slot_fault s ≡ None)
unfolding decode_record
record_gives byte rest s n = by_kind (kind_of byte)
  where
    by_fault : (k : Kind) (t : Slot Written) (fault : Option RecordFault) → slot_fault t ≡ fault → body_length k ≤ length rest → unless_fault {X = Slot Written × ℕ} fault (t, body_length k) ≡ Ok (s, n) → (n ≤ length rest) × (slot_fault s ≡ None)
    by_fault k t None same long e =
        let pair : ◌≡◌ {A = Slot Written × ℕ} (t, body_length k) (s, n) = cc in
        let slot = ap (λ (p : Slot Written × ℕ). p.0) pair in
        let size = ap (λ (p : Slot Written × ℕ). p.1) pair in
        (rw (sym size) long, rw (sym slot) same)
    by_fault k t (Some fault) same long e = cc

    by_length : (k : Kind) (long : Bool) → nat_le (body_length k) (length rest) ≡ long → cond long (unless_fault {X = Slot Written × ℕ} (slot_fault (slot_in k (take (body_length k) rest))) (slot_in k (take (body_length k) rest), body_length k)) (Err CutShort) ≡ Ok (s, n) → (n ≤ length rest) × (slot_fault s ≡ None)
    by_length k true test e = by_fault k (slot_in k (take (body_length k) rest)) (slot_fault (slot_in k (take (body_length k) rest))) refl (leb-true (body_length k) (length rest) test) e
    by_length k false test e = cc

    by_kind : (kind : Option Kind) → decode_body kind rest ≡ Ok (s, n) → (n ≤ length rest) × (slot_fault s ≡ None)
    by_kind None e = cc
    by_kind (Some k) e = by_length k (nat_le (body_length k) (length rest)) refl e

-- the record that is to be a slot
abbrev pub record_in : ℕ → ℕ → ℕ → List ℕ → Result (Slot Written × ℕ) RecordFault
record_in room slot kind rest = cond (nat_lt slot room) (decode_record kind rest) (Err (Refused Full))

-- what follows a record's slot
abbrev pub more_from : ℕ → ℕ → ℕ → List ℕ → Slot Written → ℕ → Result (List (Slot Written)) SheetFault
more_from room slot place rest s n = followed_by s (decode (room - (slot + 1)) (slot + 1) (place + (1 + n)) (drop n rest))

pub decode_by_record :
    (room slot place kind : ℕ) (rest : List ℕ) →
    decode (room - slot) slot place (kind ∷ rest) ≡ go_on slot place (record_in room slot kind rest) (more_from room slot place rest)
unfolding decode
decode_by_record room slot place kind rest = by_test (nat_lt slot room) refl
  where
    by_test : (fits : Bool) → nat_lt slot room ≡ fits → decode (room - slot) slot place (kind ∷ rest) ≡ go_on slot place (cond fits (decode_record kind rest) (Err (Refused Full))) (more_from room slot place rest)
    by_test true e =
        let within = ltb-true slot room e in
        let one_more : room - slot ≡ suc (room - (slot + 1)) = omega arith in
        rw one_more
    by_test false e =
        let past = ltb-false slot room e in
        let none : room - slot ≡ 0 = omega arith in
        rw none

answer_followed : (s : Slot Written) (r : Result (List (Slot Written)) SheetFault) → answered (followed_by s r) ≡ answered r
answer_followed s (Ok slots) = refl
answer_followed s (Err fault) = refl

module _ (slot place : ℕ) where
  -- the length of the body, where the record gives a slot
  abbrev pub size_told : Result (Slot Written × ℕ) RecordFault → Result ℕ SheetFault
  size_told taken = go_on slot place taken (λ s n. Ok n)

  pub answer_past :
      (room : ℕ) (rest : List ℕ) (taken : Result (Slot Written × ℕ) RecordFault) (n : ℕ) → Ok n ≡ size_told taken →
      answered (go_on slot place taken (more_from room slot place rest)) ≡ answered (decode (room - (slot + 1)) (slot + 1) (place + (1 + n)) (drop n rest))
  answer_past room rest (Ok (s, m)) n e =
      let same : n ≡ m = cc in
      rw same (answer_followed s (decode (room - (slot + 1)) (slot + 1) (place + (1 + m)) (drop m rest)))
  answer_past room rest (Err fault) n e = cc

  pub answer_at :
      {X : Type 0} (taken : Result (Slot Written × ℕ) RecordFault) (next : Slot Written → ℕ → Result X SheetFault) (fault : SheetFault) → Err fault ≡ size_told taken →
      go_on slot place taken next ≡ Err fault
  answer_at (Ok (s, m)) next fault e = cc
  answer_at (Err f) next fault e = cc

  -- and there is that much of it
  pub size_within : (room kind : ℕ) (rest : List ℕ) (n : ℕ) → Ok n ≡ size_told (record_in room slot kind rest) → (slot < room) × (n ≤ length rest)
  size_within room kind rest n = by_test (nat_lt slot room) refl
    where
      by_record : (taken : Result (Slot Written × ℕ) RecordFault) → decode_record kind rest ≡ taken → Ok n ≡ size_told taken → n ≤ length rest
      by_record (Ok (s, m)) is e = let same : n ≡ m = cc in rw same (record_gives kind rest s m is).0
      by_record (Err fault) is e = cc

      by_test : (fits : Bool) → nat_lt slot room ≡ fits → Ok n ≡ size_told (cond fits (decode_record kind rest) (Err (Refused Full))) → (slot < room) × (n ≤ length rest)
      by_test true test e = (ltb-true slot room test, by_record (decode_record kind rest) refl e)
      by_test false test e = cc

-- one record on: what is left answers the same
pub answered_on :
    (room slot place kind n : ℕ) (left rest after : List ℕ) (taken : Result (Slot Written × ℕ) RecordFault) → left ≡ kind ∷ rest → taken ≡ record_in room slot kind rest →
    Ok n ≡ size_told slot place taken → after ≡ drop n rest →
    answered (decode (room - slot) slot place left) ≡ answered (decode (room - (slot + 1)) (slot + 1) (place + (1 + n)) after)
answered_on room slot place kind n left rest after taken front is told past =
    rw (front, past) (ap answered (decode_by_record room slot place kind rest) ∙ rw (sym is) (answer_past slot place room rest taken n told))

-- a record that is refused: the sheet is refused with its fault
pub answered_fault :
    (room slot place kind : ℕ) (left rest : List ℕ) (taken : Result (Slot Written × ℕ) RecordFault) (fault : SheetFault) → left ≡ kind ∷ rest → taken ≡ record_in room slot kind rest →
    Err fault ≡ size_told slot place taken → decode (room - slot) slot place left ≡ Err fault
answered_fault room slot place kind left rest taken fault front is told =
    rw front (decode_by_record room slot place kind rest ∙ rw (sym is) (answer_at slot place taken (more_from room slot place rest) fault told))

-- with nothing left there is no fault
pub answered_all : (more slot place : ℕ) (left : List ℕ) → left ≡ [] → answered (decode more slot place left) ≡ Ok tt
unfolding decode
answered_all more slot place left none = rw none
