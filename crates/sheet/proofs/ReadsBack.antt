-- A sheet that slots were written to reads back as what it keeps of them.
use Rattle.std.proofs.Common.{◌≡◌, ℕ, zero, suc, ◌+◌, ◌<◌, ◌≤◌, true, List, [], ◌∷◌, ◌++◌, map, length, drop, Some, None, Ok, Err, Option, Result, sym, refl, ap, ◌∙◌, ap₂, arith, length-append}
use Rattle.std.proofs.lemmas.List.{append-nil, take_at, drop_at}
use Rattle.std.specs.List.{AllByRecursion}
use Rattle.curve.specs.declared.written.Written.{Written}
use Rattle.slots.specs.Slots.{all_proper}
use Rattle.slots.specs.declared.slot.Slot.{Slot}
use Rattle.sheet.specs.Fields.{values, packed}
use Rattle.sheet.specs.Kinds.{kind_byte, kind_of, kind_of_curve, fields, body_length}
use Rattle.sheet.specs.declared.kinds.Kind.{Kind}
use Rattle.sheet.specs.declared.kinds.Kind.TheVariants.{Square as square, Band as band, Knees as knees}
use Rattle.sheet.specs.Records.{decode_record, encode_slot}
use Rattle.sheet.specs.SlotFaults.{slot_fault, unless_fault}
use Rattle.sheet.specs.SlotFields.{slot_in, slot_with, slot_values, as_written}
use Rattle.sheet.specs.RoundTrips.{Fitting, SixKnees, SameMeaning, ReadsBack}
use Rattle.sheet.specs.Sheets.{go_on, followed_by, decode, encode}
use Rattle.sheet.specs.declared.fault.RecordFault.{RecordFault}
use Rattle.sheet.specs.declared.fault.RecordFault.TheVariants.{Curve}
use Rattle.sheet.proofs.Decoding.{record_tested}
use Rattle.sheet.proofs.FieldBytes.{values_packed}
use Rattle.sheet.proofs.Holding.{slot_holds}
use Rattle.sheet.proofs.KeptFaults.{all_faultless, first_proper, kept_refused}
use Rattle.sheet.proofs.KeptMeaning.{same_meaning, for_all}
use Rattle.sheet.proofs.RecordBytes.{length_packed}
use Rattle.sheet.specs.SlotFaultsLemmas.{passes}

-- what a sheet keeps of a slot has no fault
abbrev Faultless : Slot Written → Type 0
Faultless s = slot_fault (as_written s) ≡ None

known : (kind : Kind) → kind_of (kind_byte kind) ≡ Some kind
known square = refl
known band = refl
known knees = refl

-- one record
record_read :
    (s : Slot Written) (rest : List ℕ) → Fitting s →
    decode_record (kind_byte (kind_of_curve s.curve)) (packed (fields (kind_of_curve s.curve)) (slot_values s) ++ rest) ≡ unless_fault (slot_fault (as_written s)) (as_written s, body_length (kind_of_curve s.curve))
record_read s rest held =
    let kind = kind_of_curve s.curve in
    let bytes = packed (fields kind) (slot_values s) in
    let size = length_packed (fields kind) (slot_values s) in
    let long : body_length kind ≤ length (bytes ++ rest) = rw length-append (omega arith) in
    let read = ap (values (fields kind) 0) (sym (append-nil bytes)) ∙ values_packed (fields kind) (slot_values s) [] [] held in
    let slot : as_written s ≡ slot_in kind bytes = sym (ap (slot_with kind) read) in
    record_tested kind (kind_byte kind) (bytes ++ rest) (known kind) (as_written s) long (slot ∙ ap (slot_in kind) (sym (take_at bytes rest (body_length kind) size)))

-- with a slot that has no fault, reading goes on
gone_on :
    (more slot place : ℕ) (s : Slot Written) (slots : List (Slot Written)) → Faultless s →
    decode (suc more) slot place (encode (s ∷ slots)) ≡ followed_by (as_written s) (decode more (slot + 1) (place + length (encode_slot s)) (encode slots))
unfolding decode encode encode_slot
gone_on more slot place s slots fine =
    let kind = kind_of_curve s.curve in
    let bytes = packed (fields kind) (slot_values s) in
    let size = length_packed (fields kind) (slot_values s) in
    let first = record_read s (encode slots) (slot_holds s (passes (as_written s) fine)) ∙ ap (λ (fault : Option RecordFault). unless_fault fault (as_written s, body_length kind)) fine in
    let rest = drop_at bytes (encode slots) (body_length kind) size in
    let whole : 1 + body_length kind ≡ suc (length bytes) = omega arith in
    ap (λ (taken : Result (Slot Written × ℕ) RecordFault). go_on slot place taken (λ s n. followed_by s (decode more (slot + 1) (place + (1 + n)) (drop n (bytes ++ encode slots))))) first
    ∙ ap₂ (λ (n : ℕ) (left : List ℕ). followed_by (as_written s) (decode more (slot + 1) (place + n) left)) whole rest

-- all of them
decode_encode : (more slot place : ℕ) (slots : List (Slot Written)) → AllByRecursion Faultless slots → length slots ≤ more → decode more slot place (encode slots) ≡ Ok (map as_written slots)
unfolding decode encode
decode_encode more slot place [] fine room = refl
decode_encode zero slot place (s ∷ slots) fine room = absurd (omega arith)
decode_encode (suc more) slot place (s ∷ slots) fine room =
    gone_on more slot place s slots fine.0 ∙ ap (followed_by (as_written s)) (decode_encode more (slot + 1) (place + length (encode_slot s)) slots fine.1 (omega arith))

-- the place after one more record
place_past : (place : ℕ) (s : Slot Written) (slots : List (Slot Written)) → place + length (encode_slot s) + length (encode slots) ≡ place + length (encode (s ∷ slots))
unfolding encode
place_past place s slots = let size = length-append (encode_slot s) (encode slots) in omega arith

-- or those before the first that has a fault
decode_refused :
    (more slot place : ℕ) (before after : List (Slot Written)) (s : Slot Written) (fault : RecordFault) → AllByRecursion Faultless before → Fitting s → slot_fault (as_written s) ≡ Some fault → length before < more →
    decode more slot place (encode (before ++ s ∷ after)) ≡ Err (record { fault = fault; slot = slot + length before; place = place + length (encode before) })
unfolding decode encode encode_slot
decode_refused zero slot place before after s fault fine held broken room = absurd (omega arith)
decode_refused (suc more) slot place [] after s fault fine held broken room =
    let kind = kind_of_curve s.curve in
    let bytes = packed (fields kind) (slot_values s) in
    let first = record_read s (encode after) held ∙ ap (λ (fault : Option RecordFault). unless_fault fault (as_written s, body_length kind)) broken in
    let here : slot ≡ slot + 0 = omega arith in
    let there : place ≡ place + 0 = omega arith in
    ap (λ (taken : Result (Slot Written × ℕ) RecordFault). go_on slot place taken (λ s n. followed_by s (decode more (slot + 1) (place + (1 + n)) (drop n (bytes ++ encode after))))) first
    ∙ ap₂ (λ (at_slot at_place : ℕ). Err (record { fault = fault; slot = at_slot; place = at_place })) here there
decode_refused (suc more) slot place (b ∷ before) after s fault fine held broken room =
    let here : slot + 1 + length before ≡ slot + suc (length before) = omega arith in
    let there = place_past place b before in
    gone_on more slot place b (before ++ s ∷ after) fine.0
    ∙ ap (followed_by (as_written b)) (decode_refused more (slot + 1) (place + length (encode_slot b)) before after s fault fine.1 held broken (omega arith))
    ∙ ap₂ (λ (at_slot at_place : ℕ). Err (record { fault = fault; slot = at_slot; place = at_place })) here there

pub reads_back : (slots : List (Slot Written)) (sheet : List ℕ) → all_proper slots ≡ true → sheet ≡ encode slots → ReadsBack slots sheet
reads_back slots sheet fine is =
    record {
      whole = λ makes room fits. rw is (decode_encode room 0 0 slots (all_faultless slots fine makes) fits);
      refused = λ before after s fault split makes held six broken room fits.
          let here : 0 + length before ≡ length before = omega arith in
          let there : 0 + length (encode before) ≡ length (encode before) = omega arith in
          let FineBefore = first_proper before (s ∷ after) (rw split at fine) in
          ap (decode room 0 0) (is ∙ ap encode split)
          ∙ decode_refused room 0 0 before after s (Curve fault) (all_faultless before FineBefore makes) held (kept_refused s fault six broken) fits
          ∙ ap₂ (λ (at_slot at_place : ℕ). Err (record { fault = Curve fault; slot = at_slot; place = at_place })) here there;
      meaning = for_all (λ s. SixKnees s.curve → SameMeaning (as_written s).curve s.curve) (λ s. same_meaning s.curve) slots;
    }
