-- Filling an empty day with the slots of a sheet that has been tested.
use Rattle.std.proofs.Common.{◌≡◌, ℕ, zero, suc, ◌+◌, ◌≤◌, true, List, [], ◌∷◌, ◌++◌, length, drop, set, None, Ok, Err, Result, sym, refl, append_assoc, arith, length-append, lt-ltb}
use Rattle.std.proofs.lemmas.List.{length_push, drop_more, set_at}
use Rattle.curve.specs.Tests.{and_left, and_right}
use Rattle.curve.specs.declared.written.Written.{Written}
use Rattle.day.specs.Edits.{add_refusal}
use Rattle.day.specs.PlainDay.{PlainDay}
use Rattle.day.specs.View.{room_of}
use Rattle.slots.specs.Slots.{bounds_hold, tolls_hold, proper, all_proper}
use Rattle.slots.specs.declared.slot.Slot.{Slot}
use Rattle.sheet.specs.ProperSheets.{proper_decode}
use Rattle.sheet.specs.Records.{decode_record}
use Rattle.sheet.specs.Sheets.{followed_by, go_on, decode, decoded}
use Rattle.sheet.specs.declared.fault.RecordFault.{RecordFault}
use Rattle.sheet.specs.declared.fault.SheetFault.{SheetFault}

-- a sheet gives no more slots than the day can hold
fits_decode : (more slot place : ℕ) (sheet : List ℕ) (slots : List (Slot Written)) → decode more slot place sheet ≡ Ok slots → length slots ≤ more
unfolding decode
fits_decode more slot place [] slots e = let none : slots ≡ [] = cc in rw none (omega arith)
fits_decode zero slot place (kind ∷ rest) slots e = cc
fits_decode (suc more) slot place (kind ∷ rest) slots e =
    by_record (λ n tail is. fits_decode more (slot + 1) (place + (1 + n)) (drop n rest) tail is) (decode_record kind rest) refl e
  where
    Others : Type 0
    Others = (n : ℕ) (tail : List (Slot Written)) → decode more (slot + 1) (place + (1 + n)) (drop n rest) ≡ Ok tail → length tail ≤ more

    by_more : Others → (s : Slot Written) (n : ℕ) → (next : Result (List (Slot Written)) SheetFault) → decode more (slot + 1) (place + (1 + n)) (drop n rest) ≡ next → followed_by s next ≡ Ok slots → length slots ≤ suc more
    by_more others s n (Ok tail) is e = let all : slots ≡ s ∷ tail = cc in rw all (omega (arith, others n tail is))
    by_more others s n (Err fault) is e = cc

    by_record :
        Others → (taken : Result (Slot Written × ℕ) RecordFault) → decode_record kind rest ≡ taken →
        go_on slot place taken (λ s n. followed_by s (decode more (slot + 1) (place + (1 + n)) (drop n rest))) ≡ Ok slots → length slots ≤ suc more
    by_record others (Ok (s, n)) is e = by_more others s n (decode more (slot + 1) (place + (1 + n)) (drop n rest)) refl e
    by_record others (Err fault) is e = cc

proper_behind : (before after : List (Slot Written)) (s : Slot Written) → all_proper (before ++ s ∷ after) ≡ true → proper s ≡ true
proper_behind [] after s fine = and_left (proper s) (all_proper after) fine
proper_behind (b ∷ before) after s fine = proper_behind before after s (and_right (proper b) (all_proper (before ++ s ∷ after)) fine)

module _ (sheet : List ℕ) (memory : List (Slot Written)) where
  -- the slots so far are those of the day, over the memory that was lent, and the others are left
  pub record Filled (d : PlainDay Written) (held : List (Slot Written)) (left : Result (List (Slot Written)) SheetFault) : Type 0 where
    pub others : List (Slot Written)
    pub left_is : left ≡ Ok others
    pub all_is : decoded (room_of memory) sheet ≡ Ok (d.slots ++ others)
    pub held_is : held ≡ d.slots ++ drop (length d.slots) memory
    pub room_is : d.room ≡ room_of memory

  -- a slot that the day lets in
  pub record Entered (d : PlainDay Written) (held : List (Slot Written)) (s : Slot Written) (after : Result (List (Slot Written)) SheetFault) : Type 0 where
    pub accepted : add_refusal d s ≡ None
    pub filled : Filled (record { room = d.room; slots = d.slots ++ s ∷ [] }) (set held (length d.slots) s) after

  -- the next slot is one
  pub entered : (d : PlainDay Written) (held : List (Slot Written)) (s : Slot Written) (after : Result (List (Slot Written)) SheetFault) → Filled d held (followed_by s after) → Entered d held s after
  entered d held s (Ok more) filled =
      let others : filled.others ≡ s ∷ more = cc filled.left_is in
      let all : decoded (room_of memory) sheet ≡ Ok (d.slots ++ s ∷ more) = rw others at filled.all_is in
      let fits = simp length-append at (fits_decode (room_of memory) 0 0 sheet _ all) in
      let fine = proper_behind d.slots more s (proper_decode (room_of memory) 0 0 sheet _ all) in
      let bounds = and_left (bounds_hold s) (tolls_hold s) fine in
      let tolls = and_right (bounds_hold s) (tolls_hold s) fine in
      let count = length d.slots in
      let free = lt-ltb count (room_of memory) (omega arith) in
      let size = length_push d.slots s in
      let at_place = drop_more memory count s (omega arith) in
      record {
        accepted = rw (bounds, tolls, filled.room_is, free);
        filled =
            record {
              others = more;
              left_is = refl;
              all_is = rw (append_assoc d.slots (s ∷ []) more) all;
              held_is = rw (filled.held_is, at_place, set_at d.slots _ (drop (count + 1) memory) s count refl, size, append_assoc d.slots (s ∷ []) (drop (count + 1) memory));
              room_is = filled.room_is;
            };
      }
  entered d held s (Err fault) filled = let clash = filled.left_is in cc

  -- the day after an edit, by what is known of it
  pub filled_as : {d d' : PlainDay Written} {held held' : List (Slot Written)} {left left' : Result (List (Slot Written)) SheetFault} → Filled d held left → d ≡ d' → held ≡ held' → left ≡ left' → Filled d' held' left'
  filled_as filled p q r = rw (sym p, sym q, sym r) filled
