-- Fields and their bytes: each gives the other back.
use Rattle.std.proofs.Common.{◌≡◌, ℕ, ◌+◌, ◌^◌, ◌<◌, ◌≤◌, List, [], ◌∷◌, ◌++◌, length, take, drop, sym, refl, ap, ◌∙◌, subst, ap₂, append_assoc, arith, length-append, length-drop, length-take, take-add, w8, w16, w32, w64}
use mir.Syntax.{Width, w128}
use mir.Val.{bits, bytes}
use mir.Facts.{Fits-of_z}
use Rattle.std.proofs.ByRecursion.{All-take, All-drop}
use Rattle.std.proofs.lemmas.List.{drop-drop, drop_at, take_at}
use Rattle.std.proofs.lemmas.Int.{to_z-of_z, of_z-to_z}
use Rattle.std.specs.Int.Digits.{AllBelowBase}
use Rattle.sheet.specs.Fields.{Field, unsigned, signed, width, size, Value, Values, Holds, AllHold, value, written, values, packed}
use Rattle.sheet.specs.Numbers.{number, big_endian}
use Rattle.sheet.proofs.BigEndian.{number_big_endian, big_endian_number, number_small}
use Rattle.sheet.proofs.Overwriting.{length_big_endian}

byte_powers : (w : Width) → 256 ^ bytes w ≡ 2 ^ bits w
byte_powers w8 = refl
byte_powers w16 = refl
byte_powers w32 = refl
byte_powers w64 = refl
byte_powers w128 = refl

-- what bytes write is read and written as the same number
written_value : (f : Field) (n : ℕ) → n < 256 ^ width f → written f (value f n) ≡ n
written_value (unsigned w) n small = refl
written_value (signed w) n small = of_z-to_z w n (rw (byte_powers w) at small)

value_written : (f : Field) (v : Value f) → Holds f v → value f (written f v) ≡ v
value_written (unsigned w) n holds = refl
value_written (signed w) z holds = to_z-of_z w z holds

written_small : (f : Field) (v : Value f) → Holds f v → written f v < 256 ^ width f
written_small (unsigned w) n holds = rw (byte_powers w) holds
written_small (signed w) z holds = rw (byte_powers w) (Fits-of_z holds).fits

-- fields that were read give their bytes back
pub packed_values : (fs : List Field) (place : ℕ) (bs : List ℕ) → place + size fs ≤ length bs → AllBelowBase 256 bs → packed fs (values fs place bs) ≡ take (size fs) (drop place bs)
packed_values [] place bs within under = refl
packed_values (f ∷ fs) place bs within under =
    let part = take (width f) (drop place bs) in
    let part_under = All-take (λ b. b < 256) (width f) (drop place bs) (All-drop (λ b. b < 256) place bs under) in
    let long : length part ≡ width f = simp (length-take, length-drop) (omega arith) in
    let small = number_small part part_under in
    let Below : ℕ → Type 0 = λ n. number part < 256 ^ n in
    let same = written_value f (number part) (subst Below long small) in
    let first : big_endian (width f) (written f (value f (number part))) ≡ part = ap₂ (λ (w n : ℕ). big_endian w n) (sym long) same ∙ big_endian_number part part_under in
    let rest = packed_values fs (place + width f) bs (omega arith) under ∙ ap (take (size fs)) (sym (drop-drop (width f) place bs)) in
    ap₂ (λ (a b : List ℕ). a ++ b) first rest ∙ sym (take-add (width f) (size fs) (drop place bs))

-- fields that were packed give their values back
pub values_packed : (fs : List Field) (vs : Values fs) (before after : List ℕ) → AllHold fs vs → values fs (length before) (before ++ (packed fs vs ++ after)) ≡ vs
values_packed [] vs before after holds = refl
values_packed (f ∷ fs) vs before after holds =
    let bytes = big_endian (width f) (written f vs.0) in
    let rest = packed fs vs.1 ++ after in
    let whole : before ++ (packed (f ∷ fs) vs ++ after) ≡ before ++ (bytes ++ rest) = ap (λ (bs : List ℕ). before ++ bs) (append_assoc bytes (packed fs vs.1) after) in
    let size = length_big_endian (width f) (written f vs.0) in
    let part : take (width f) (drop (length before) (before ++ (bytes ++ rest))) ≡ bytes = ap (take (width f)) (drop_at before (bytes ++ rest) (length before) refl) ∙ take_at bytes rest (width f) size in
    let number_is = ap number part ∙ number_big_endian (width f) (written f vs.0) (written_small f vs.0 holds.0) in
    let first = ap (value f) number_is ∙ value_written f vs.0 holds.0 in
    let place : length before + width f ≡ length (before ++ bytes) = rw length-append (omega arith) in
    let others = ap₂ (λ (n : ℕ) (bs : List ℕ). values fs n bs) place (sym (append_assoc before bytes rest)) ∙ values_packed fs vs.1 (before ++ bytes) after holds.1 in
    ap (values (f ∷ fs) (length before)) whole ∙ ap₂ (λ (v : Value f) (vs : Values fs). (v, vs)) first others
