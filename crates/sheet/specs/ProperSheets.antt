-- The slots of a sheet keep the rules for bounds and tolls.
use Rattle.std.specs.Prelude.{◌≡◌, ℕ, zero, suc, ◌+◌, true, List, [], ◌∷◌, drop, Ok, Err, Result, refl}
use Rattle.curve.specs.declared.written.Written.{Written}
use Rattle.slots.specs.Slots.{all_proper}
use Rattle.slots.specs.declared.slot.Slot.{Slot}
use Rattle.sheet.specs.Records.{decode_record}
use Rattle.sheet.specs.Sheets.{followed_by, go_on, decode}
use Rattle.sheet.specs.declared.fault.RecordFault.{RecordFault}
use Rattle.sheet.specs.declared.fault.SheetFault.{SheetFault}
use Rattle.sheet.specs.SheetFaults.{record_gives}
use Rattle.sheet.specs.SlotFaultsLemmas.{Passes, passes}

-- a slot that passed its tests, before others that keep the rules
proper_more : (s : Slot Written) (more slots : List (Slot Written)) → Passes s → all_proper more ≡ true → ◌≡◌ {A = Result (List (Slot Written)) SheetFault} (Ok (s ∷ more)) (Ok slots) → all_proper slots ≡ true
proper_more s more slots p others e =
    let same : slots ≡ s ∷ more = cc in
    rw (same, p.bounds, p.tolls, others)

pub proper_decode : (more slot place : ℕ) (sheet : List ℕ) (slots : List (Slot Written)) → decode more slot place sheet ≡ Ok slots → all_proper slots ≡ true
unfolding decode
proper_decode more slot place [] slots e = let same : slots ≡ [] = cc in rw same
proper_decode zero slot place (kind ∷ rest) slots e = cc
proper_decode (suc more) slot place (kind ∷ rest) slots e =
    by_record (λ n tail is. proper_decode more (slot + 1) (place + (1 + n)) (drop n rest) tail is) (decode_record kind rest) refl e
  where
    -- the records after a record of n bytes
    Others : Type 0
    Others = (n : ℕ) (tail : List (Slot Written)) → decode more (slot + 1) (place + (1 + n)) (drop n rest) ≡ Ok tail → all_proper tail ≡ true

    by_more : Others → (s : Slot Written) (n : ℕ) → Passes s → (next : Result (List (Slot Written)) SheetFault) → decode more (slot + 1) (place + (1 + n)) (drop n rest) ≡ next → followed_by s next ≡ Ok slots → all_proper slots ≡ true
    by_more others s n p (Ok tail) is e = proper_more s tail slots p (others n tail is) e
    by_more others s n p (Err fault) is e = cc

    by_record :
        Others → (taken : Result (Slot Written × ℕ) RecordFault) → decode_record kind rest ≡ taken →
        go_on slot place taken (λ s n. followed_by s (decode more (slot + 1) (place + (1 + n)) (drop n rest))) ≡ Ok slots → all_proper slots ≡ true
    by_record others (Ok (s, n)) is e = by_more others s n (passes s (record_gives kind rest s n is).1) (decode more (slot + 1) (place + (1 + n)) (drop n rest)) refl e
    by_record others (Err fault) is e = cc
