-- The bytes of a record, as the program puts them together.
use Rattle.std.proofs.Common.{◌≡◌, ℕ, zero, suc, ◌+◌, ◌*◌, List, [], ◌∷◌, ◌++◌, length, ℤ, pos, sym, refl, ap, ◌∙◌, ap₂, append_assoc, arith, length-append, w32, of_z}
use Rattle.std.proofs.lemmas.List.{append-nil}
use Rattle.curve.specs.declared.written.Written.{Written}
use Rattle.curve.specs.declared.written.Written.TheVariants.{Square}
use Rattle.slots.specs.declared.slot.Slot.{Slot}
use Rattle.sheet.specs.Fields.{Field, Values, size, width, packed, written}
use Rattle.sheet.specs.Numbers.{big_endian}
use Rattle.sheet.specs.Kinds.{knee_fields, kind_of_curve, fields, body_length}
use Rattle.sheet.specs.Records.{encode_slot}
use Rattle.sheet.specs.SlotFields.{used, knee_values, slot_values}
use Rattle.sheet.proofs.Overwriting.{length_big_endian}

-- what stands past the last slot, where a list is read
abbrev pub blank : Slot Written
blank = record { curve = Square 0 0; low = 0; high = 0; up = 0; down = 0 }

-- fields take as many bytes as their widths say
pub length_packed : (fs : List Field) (vs : Values fs) → length (packed fs vs) ≡ size fs
length_packed [] vs = refl
length_packed (f ∷ fs) vs =
    length-append (big_endian (width f) (written f vs.0)) (packed fs vs.1) ∙ ap₂ (λ (a b : ℕ). a + b) (length_big_endian (width f) (written f vs.0)) (length_packed fs vs.1)

pub length_encode_slot : (s : Slot Written) → length (encode_slot s) ≡ 1 + body_length (kind_of_curve s.curve)
unfolding encode_slot
length_encode_slot s = let size = length_packed (fields (kind_of_curve s.curve)) (slot_values s) in omega arith

-- the bytes of one knee
module _ (count : ℕ) (levels : List ℕ) (steps : List ℤ) where
  abbrev pub knee_bytes : ℕ → List ℕ
  knee_bytes place = big_endian 2 (used count place levels 0) ++ big_endian 4 (of_z w32 (used count place steps (pos 0)))

  abbrev pub knees_bytes : ℕ → ℕ → List ℕ
  knees_bytes many place = packed (knee_fields many) (knee_values many place count levels steps)

  -- stand behind those of the knees before it
  pub knee_more : (many place : ℕ) → knees_bytes (suc many) place ≡ knees_bytes many place ++ knee_bytes (place + many)
  knee_more zero place =
      let here : place + 0 ≡ place = omega arith in
      ap (λ (bs : List ℕ). big_endian 2 (used count place levels 0) ++ bs) (append-nil (big_endian 4 (of_z w32 (used count place steps (pos 0))))) ∙ ap knee_bytes (sym here)
  knee_more (suc many) place =
      let level = big_endian 2 (used count place levels 0) in
      let step = big_endian 4 (of_z w32 (used count place steps (pos 0))) in
      let there : suc place + many ≡ place + suc many = omega arith in
      let others = knee_more many (suc place) ∙ ap (λ (n : ℕ). knees_bytes many (suc place) ++ knee_bytes n) there in
      ap (λ (bs : List ℕ). level ++ (step ++ bs)) others
      ∙ sym (append_assoc level (step ++ knees_bytes many (suc place)) (knee_bytes (place + suc many)) ∙ ap (λ (bs : List ℕ). level ++ bs) (append_assoc step (knees_bytes many (suc place)) (knee_bytes (place + suc many))))

  pub length_knees : (many place : ℕ) → length (knees_bytes many place) ≡ 6 * many
  length_knees many place = length_packed (knee_fields many) (knee_values many place count levels steps) ∙ sizes many
    where
      sizes : (many : ℕ) → size (knee_fields many) ≡ 6 * many
      sizes zero = refl
      sizes (suc many) = let others = sizes many in omega arith
