-- A sheet: the records of a day's slots, with no header and nothing after the last.
use Rattle.std.specs.Prelude.{ℕ, zero, suc, ◌+◌, List, [], ◌∷◌, ◌++◌, length, drop, Some, None, Ok, Err, Option, Result, nat_le}
use Rattle.std.specs.List.{flat_map}
use Rattle.curve.specs.Answers.{broken}
use Rattle.curve.specs.declared.written.Written.{Written}
use Rattle.day.specs.PlainDay.{PlainDay}
use Rattle.slots.specs.declared.refusal.Refusal.{Refusal}
use Rattle.slots.specs.declared.refusal.Refusal.TheVariants.{Full, Short}
use Rattle.slots.specs.declared.slot.Slot.{Slot}
use Rattle.sheet.specs.Records.{decode_record, encode_slot}
use Rattle.sheet.specs.declared.fault.RecordFault.{RecordFault}
use Rattle.sheet.specs.declared.fault.RecordFault.TheVariants.{Refused}
use Rattle.sheet.specs.declared.fault.SheetFault.{SheetFault}

-- a slot before those of the records after it
abbrev pub followed_by : {F : Type 0} → Slot Written → Result (List (Slot Written)) F → Result (List (Slot Written)) F
followed_by s (Ok slots) = Ok (s ∷ slots)
followed_by s (Err fault) = Err fault

-- a record's slot and the length of its body go on to the records after it; its fault is that of the sheet, at a slot and a place
abbrev pub go_on : {X : Type 0} → ℕ → ℕ → Result (Slot Written × ℕ) RecordFault → (Slot Written → ℕ → Result X SheetFault) → Result X SheetFault
go_on slot place (Ok taken) next = next taken.0 taken.1
go_on slot place (Err fault) next = Err (record { fault = fault; slot = slot; place = place })

-- the slots of the records that begin at a slot and a place, in a day that can hold so many more
unfoldable pub decode : ℕ → ℕ → ℕ → List ℕ → Result (List (Slot Written)) SheetFault
decode more slot place [] = Ok []
decode zero slot place (kind ∷ rest) = Err (record { fault = Refused Full; slot = slot; place = place })
decode (suc more) slot place (kind ∷ rest) =
    go_on slot place (decode_record kind rest) (λ s n. followed_by s (decode more (slot + 1) (place + (1 + n)) (drop n rest)))

-- the sheet of slots
unfoldable pub encode : List (Slot Written) → List ℕ
encode slots = flat_map encode_slot slots

-- what reading makes of a sheet in a day that can hold so many slots
abbrev pub decoded : ℕ → List ℕ → Result (List (Slot Written)) SheetFault
decoded room sheet = decode room 0 0 sheet

-- what is told: the fault, if there is one
abbrev pub answered : {C : Type 0} → Result (List (Slot C)) SheetFault → Result (Unit {0}) SheetFault
answered (Ok slots) = Ok tt
answered (Err fault) = Err fault

-- the slots of a plain day are replaced; a refused sheet leaves it
abbrev pub replaced : {C : Type 0} → PlainDay C → Result (List (Slot C)) SheetFault → PlainDay C
replaced d (Ok slots) = record { room = d.room; slots = slots }
replaced d (Err fault) = d

-- the slots are written over the first of the memory, and the places beyond the last are as they were; a refused sheet leaves all of it
abbrev pub laid_over : {C : Type 0} → List (Slot C) → Result (List (Slot C)) SheetFault → List (Slot C)
laid_over memory (Ok slots) = slots ++ drop (length slots) memory
laid_over memory (Err fault) = memory

-- what reading a sheet into a plain day answers
abbrev pub read_answer : PlainDay Written → List ℕ → Result (Unit {0}) SheetFault
read_answer d sheet = answered (decoded d.room sheet)

-- what it makes of the day
abbrev pub read_day : PlainDay Written → List ℕ → PlainDay Written
read_day d sheet = replaced d (decoded d.room sheet)

-- and what it leaves in the memory
abbrev pub read_memory : PlainDay Written → List (Slot Written) → List ℕ → List (Slot Written)
read_memory d memory sheet = laid_over memory (decoded d.room sheet)

-- writing is refused if the buffer is short
abbrev pub write_refusal : List (Slot Written) → List ℕ → Option Refusal
write_refusal slots buffer = broken ((nat_le (length (encode slots)) (length buffer), Short) ∷ [])

-- the sheet is written over the first of the buffer, and the bytes after it are as they were; a refusal leaves all of it
abbrev pub written_over : Option Refusal → List ℕ → List ℕ → List ℕ
written_over None sheet buffer = sheet ++ drop (length sheet) buffer
written_over (Some refusal) sheet buffer = buffer
