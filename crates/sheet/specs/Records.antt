-- A record of a sheet: one byte of kind, then a body whose fields the kind fixes.
use Rattle.std.specs.Prelude.{◌≡◌, ℕ, ◌≤◌, cond, List, ◌∷◌, length, take, drop, Some, None, Ok, Err, Option, Result, nat_le}
use Rattle.curve.specs.declared.written.Written.{Written}
use Rattle.slots.specs.declared.slot.Slot.{Slot}
use Rattle.sheet.specs.Fields.{packed}
use Rattle.sheet.specs.Kinds.{kind_byte, kind_of, fields, body_length, kind_of_curve}
use Rattle.sheet.specs.declared.kinds.Kind.{Kind}
use Rattle.sheet.specs.SlotFaults.{slot_fault, unless_fault}
use Rattle.sheet.specs.SlotFields.{slot_in, slot_values}
use Rattle.sheet.specs.declared.fault.RecordFault.{RecordFault}
use Rattle.sheet.specs.declared.fault.RecordFault.TheVariants.{UnknownKind, CutShort}

-- a slot from the body that the bytes after a kind begin with, and the length of that body
abbrev pub decode_body : Option Kind → List ℕ → Result (Slot Written × ℕ) RecordFault
decode_body None rest = Err UnknownKind
decode_body (Some kind) rest =
    let s : Slot Written = slot_in kind (take (body_length kind) rest) in
    cond (nat_le (body_length kind) (length rest)) (unless_fault (slot_fault s) (s, body_length kind)) (Err CutShort)

-- the same, from the byte of kind and the bytes after it
unfoldable pub decode_record : ℕ → List ℕ → Result (Slot Written × ℕ) RecordFault
decode_record byte rest = decode_body (kind_of byte) rest

-- a record gives a slot, and after its body these bytes are left
abbrev pub Leaves : List ℕ → Result (Slot Written × ℕ) RecordFault → Slot Written → List ℕ → Type 0
Leaves rest decoded slot left = (n : ℕ) × (decoded ≡ Ok (slot, n)) × (n ≤ length rest) × (left ≡ drop n rest)

-- the record of a slot
unfoldable pub encode_slot : Slot Written → List ℕ
encode_slot s = kind_byte (kind_of_curve s.curve) ∷ packed (fields (kind_of_curve s.curve)) (slot_values s)
