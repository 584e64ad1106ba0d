-- Slots that were read are written as the bytes that they were read from.
use Rattle.std.proofs.Common.{◌≡◌, ℕ, zero, suc, ◌+◌, ◌<◌, ◌≤◌, Bool, true, false, cond, ◌&&◌, eqb, leb, List, [], ◌∷◌, ◌++◌, map, length, take, drop, nat_abs, Some, None, Ok, Err, Option, Result, sym, refl, ap, ◌∙◌, subst, ap₂, arith, w32, w64, to_z, eqb-true, leb-true}
use Rattle.std.proofs.ByRecursion.{All-take, All-drop}
use Rattle.std.proofs.lemmas.List.{take_all, take-append-drop, length-take-le}
use Rattle.std.specs.Int.Digits.{AllBelowBase}
use Rattle.curve.specs.Tests.{and_left, and_right, all_pass}
use Rattle.curve.specs.KneeSteps.{knees_rules}
use Rattle.curve.specs.Limits.{knee_limit}
use Rattle.curve.specs.declared.written.Written.{Written}
use Rattle.day.specs.PlainDay.{PlainDay}
use Rattle.slots.specs.declared.slot.Slot.{Slot}
use Rattle.sheet.specs.Fields.{Values, number_at, values, packed}
use Rattle.sheet.specs.Kinds.{kind_byte, kind_of, fields, knee_fields, body_length}
use Rattle.sheet.specs.declared.kinds.Kind.{Kind}
use Rattle.sheet.specs.declared.kinds.Kind.TheVariants.{Square as square, Band as band, Knees as knees}
use Rattle.sheet.specs.Records.{decode_body, decode_record, encode_slot}
use Rattle.sheet.specs.SlotFaults.{slot_fault, unless_fault, all_zero}
use Rattle.sheet.specs.SlotFields.{knee_levels, knee_steps, slot_in, slot_with, as_written}
use Rattle.sheet.specs.RoundTrips.{SixKnees, MakesCurve, WritesBack}
use Rattle.sheet.specs.Sheets.{go_on, followed_by, decode, decoded, encode, answered, replaced}
use Rattle.sheet.specs.declared.fault.RecordFault.{RecordFault}
use Rattle.sheet.specs.declared.fault.RecordFault.TheVariants.{CutShort}
use Rattle.sheet.specs.declared.fault.SheetFault.{SheetFault}
use Rattle.sheet.proofs.FieldBytes.{packed_values}
use Rattle.sheet.proofs.KneeValues.{knee_values_same}
use Rattle.sheet.specs.SlotFaultsLemmas.{passes}

-- a known byte is that of its kind
byte_of_kind : (byte : ℕ) (kind : Kind) → kind_of byte ≡ Some kind → byte ≡ kind_byte kind
byte_of_kind byte kind = one (eqb byte 1) refl
  where
    three : (t : Bool) → eqb byte 3 ≡ t → cond t (Some knees) None ≡ Some kind → byte ≡ kind_byte kind
    three true test e = let k : knees ≡ kind = cc in eqb-true byte 3 test ∙ ap kind_byte k
    three false test e = cc

    two : (t : Bool) → eqb byte 2 ≡ t → cond t (Some band) (cond (eqb byte 3) (Some knees) None) ≡ Some kind → byte ≡ kind_byte kind
    two true test e = let k : band ≡ kind = cc in eqb-true byte 2 test ∙ ap kind_byte k
    two false test e = three (eqb byte 3) refl e

    one : (t : Bool) → eqb byte 1 ≡ t → cond t (Some square) (cond (eqb byte 2) (Some band) (cond (eqb byte 3) (Some knees) None)) ≡ Some kind → byte ≡ kind_byte kind
    one true test e = let k : square ≡ kind = cc in eqb-true byte 1 test ∙ ap kind_byte k
    one false test e = two (eqb byte 2) refl e

-- a slot that was read, its record, and what a sheet keeps of it
pub record WrittenAgain (kind : Kind) (body : List ℕ) : Type 0 where
  pub record_is : encode_slot (slot_in kind body) ≡ kind_byte kind ∷ packed (fields kind) (values (fields kind) 0 body)
  pub six : SixKnees (slot_in kind body).curve
  pub kept : as_written (slot_in kind body) ≡ slot_in kind body

-- the fields of a knees curve's body, with other knees
abbrev with_knees : List ℕ → Values (knee_fields knee_limit) → Values (fields knees)
with_knees body ks =
    let vs : Values (fields knees) = values (fields knees) 0 body in
    (vs.0, (vs.1.0, (vs.1.1.0, (vs.1.1.1.0, (vs.1.1.1.1.0, (vs.1.1.1.1.1.0, (vs.1.1.1.1.1.1.0, ks)))))))

written_again : (kind : Kind) (body : List ℕ) → slot_fault (slot_in kind body) ≡ None → WrittenAgain kind body
unfolding encode_slot
written_again square body none = record { record_is = refl; six = tt; kept = refl }
written_again band body none = record { record_is = refl; six = tt; kept = refl }
written_again knees body none =
    let ks : Values (knee_fields knee_limit) = values (knee_fields knee_limit) 25 body in
    let levels = knee_levels knee_limit ks in
    let steps = knee_steps knee_limit ks in
    let count = number_at body 24 1 in
    let ground = to_z w64 (number_at body 12 8) in
    let first = to_z w32 (number_at body 20 4) in
    let passed = passes (slot_in knees body) none in
    let counted : (leb 1 count && leb count knee_limit) ≡ true = (all_pass (knees_rules ground first count levels steps) passed.curve).0 in
    let zeros : (all_zero (drop count levels) && all_zero (drop count (map nat_abs steps))) ≡ true = rw counted at passed.unused in
    let same =
    knee_values_same count levels steps
    (and_left (all_zero (drop count levels)) (all_zero (drop count (map nat_abs steps))) zeros)
    (and_right (all_zero (drop count levels)) (all_zero (drop count (map nat_abs steps))) zeros)
    knee_limit 0 ks refl refl
    in
    record {
      record_is = ap (λ (ks : Values (knee_fields knee_limit)). kind_byte knees ∷ packed (fields knees) (with_knees body ks)) same;
      six = (refl, refl);
      kept = ap (λ (ks : Values (knee_fields knee_limit)). slot_with knees (with_knees body ks)) same;
    }

-- one record
record_again : (byte : ℕ) (rest : List ℕ) (s : Slot Written) (n : ℕ) → AllBelowBase 256 rest → decode_record byte rest ≡ Ok (s, n) → (encode_slot s ≡ byte ∷ take n rest) × MakesCurve s × (as_written s ≡ s)
unfolding decode_record
record_again byte rest s n under = by_kind (kind_of byte) refl
  where
    by_fault :
        (k : Kind) → kind_of byte ≡ Some k → body_length k ≤ length rest → (fault : Option RecordFault) → slot_fault (slot_in k (take (body_length k) rest)) ≡ fault →
        unless_fault {X = Slot Written × ℕ} fault (slot_in k (take (body_length k) rest), body_length k) ≡ Ok (s, n) → (encode_slot s ≡ byte ∷ take n rest) × MakesCurve s × (as_written s ≡ s)
    by_fault k known long None none e =
        let body = take (body_length k) rest in
        let pair : ◌≡◌ {A = Slot Written × ℕ} (slot_in k body, body_length k) (s, n) = cc in
        let again = written_again k body none in
        let body_under = All-take (λ b. b < 256) (body_length k) rest under in
        let size = length-take-le (body_length k) rest long in
        let fits : 0 + body_length k ≤ length body = omega arith in
        let bytes = packed_values (fields k) 0 body fits body_under ∙ take_all (body_length k) body (omega arith) in
        let made : encode_slot (slot_in k body) ≡ byte ∷ take (body_length k) rest = again.record_is ∙ ap₂ (λ (b : ℕ) (bs : List ℕ). b ∷ bs) (sym (byte_of_kind byte k known)) bytes in
        let P : Slot Written × ℕ → Type 0 = λ p. (encode_slot p.0 ≡ byte ∷ take p.1 rest) × MakesCurve p.0 × (as_written p.0 ≡ p.0) in
        subst P pair (made, (again.six, (passes (slot_in k body) none).curve), again.kept)
    by_fault k known long (Some fault) none e = cc

    by_length :
        (k : Kind) → kind_of byte ≡ Some k → (long : Bool) → leb (body_length k) (length rest) ≡ long →
        cond long (unless_fault {X = Slot Written × ℕ} (slot_fault (slot_in k (take (body_length k) rest))) (slot_in k (take (body_length k) rest), body_length k)) (Err CutShort) ≡ Ok (s, n) →
        (encode_slot s ≡ byte ∷ take n rest) × MakesCurve s × (as_written s ≡ s)
    by_length k known true test e = by_fault k known (leb-true (body_length k) (length rest) test) (slot_fault (slot_in k (take (body_length k) rest))) refl e
    by_length k known false test e = cc

    by_kind : (kind : Option Kind) → kind_of byte ≡ kind → decode_body kind rest ≡ Ok (s, n) → (encode_slot s ≡ byte ∷ take n rest) × MakesCurve s × (as_written s ≡ s)
    by_kind None known e = cc
    by_kind (Some k) known e = by_length k known (leb (body_length k) (length rest)) refl e

-- and all of them
pub writes_back : (more slot place : ℕ) (bytes : List ℕ) (slots : List (Slot Written)) → AllBelowBase 256 bytes → decode more slot place bytes ≡ Ok slots → WritesBack slots bytes
unfolding decode encode
writes_back more slot place [] slots under e =
    let none : [] ≡ slots = cc in
    let P : List (Slot Written) → Type 0 = λ slots. WritesBack slots [] in
    subst P none (record { bytes = refl; curves = tt; kept = refl })
writes_back zero slot place (kind ∷ rest) slots under e = cc
writes_back (suc more) slot place (kind ∷ rest) slots under e = by_record (λ slot place bytes slots under e. writes_back more slot place bytes slots under e) (decode_record kind rest) refl e
  where
    by_rest :
        ((slot place : ℕ) (bytes : List ℕ) (slots : List (Slot Written)) → AllBelowBase 256 bytes → decode more slot place bytes ≡ Ok slots → WritesBack slots bytes) → (s : Slot Written) (n : ℕ) → decode_record kind rest ≡ Ok (s, n) → (r : Result (List (Slot Written)) SheetFault) → decode more (slot + 1) (place + (1 + n)) (drop n rest) ≡ r →
        followed_by s r ≡ Ok slots → WritesBack slots (kind ∷ rest)
    by_rest on s n is (Ok others) left e =
        let first = record_again kind rest s n under.1 is in
        let behind = on (slot + 1) (place + (1 + n)) (drop n rest) others (All-drop (λ b. b < 256) n rest under.1) left in
        let all : s ∷ others ≡ slots = cc in
        let P : List (Slot Written) → Type 0 = λ slots. WritesBack slots (kind ∷ rest) in
        subst P all (
        record {
          bytes = ap₂ (λ (a b : List ℕ). a ++ b) first.0 behind.bytes ∙ ap (λ (bs : List ℕ). kind ∷ bs) (take-append-drop n rest);
          curves = (first.1, behind.curves);
          kept = ap₂ (λ (s : Slot Written) (slots : List (Slot Written)). s ∷ slots) first.2 behind.kept;
        }
        )
    by_rest on s n is (Err fault) left e = cc

    by_record :
        ((slot place : ℕ) (bytes : List ℕ) (slots : List (Slot Written)) → AllBelowBase 256 bytes → decode more slot place bytes ≡ Ok slots → WritesBack slots bytes) →
        (taken : Result (Slot Written × ℕ) RecordFault) → decode_record kind rest ≡ taken →
        go_on slot place taken (λ s n. followed_by s (decode more (slot + 1) (place + (1 + n)) (drop n rest))) ≡ Ok slots → WritesBack slots (kind ∷ rest)
    by_record on (Ok (s, n)) is e = by_rest on s n is (decode more (slot + 1) (place + (1 + n)) (drop n rest)) refl e
    by_record on (Err fault) is e = cc

-- a day that a sheet was read into
pub day_writes_back :
    (d after : PlainDay Written) (sheet : List ℕ) → AllBelowBase 256 sheet → Ok tt ≡ answered (decoded d.room sheet) → after ≡ replaced d (decoded d.room sheet) → WritesBack after.slots sheet
day_writes_back d after sheet under = by_result (decoded d.room sheet) refl
  where
    by_result : (r : Result (List (Slot Written)) SheetFault) → decoded d.room sheet ≡ r → Ok tt ≡ answered r → after ≡ replaced d r → WritesBack after.slots sheet
    by_result (Ok slots) is told made =
        let P : List (Slot Written) → Type 0 = λ slots. WritesBack slots sheet in
        subst P (sym (ap (λ (d : PlainDay Written). d.slots) made)) (writes_back d.room 0 0 sheet slots under is)
    by_result (Err fault) is told made = cc
