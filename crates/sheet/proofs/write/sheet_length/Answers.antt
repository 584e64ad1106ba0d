use Rattle.std.proofs.Common.{◌≡◌, ℕ, ◌+◌, List, [], ◌∷◌, length, sym, refl, ◌∙◌, ap₂, length-append, rules}
use Rattle.std.proofs.lemmas.List.Sums.{sum_by-cons}
use Rattle.std.specs.Prelude.{sum_by}
use Rattle.curve.specs.declared.written.Written.{Written}
use Rattle.slots.specs.declared.slot.Slot.{Slot}
use Rattle.sheet.specs.Kinds.{kind_of_curve, body_length}
use Rattle.sheet.specs.Records.{encode_slot}
use Rattle.sheet.specs.Sheets.{encode}
use Rattle.sheet.proofs.RecordBytes.{length_encode_slot}
use Rattle.sheet.proofs.write.sheet_length.Goals as goal

abbrev record_length : Slot Written → ℕ
record_length s = 1 + body_length (kind_of_curve s.curve)

lengths : (slots : List (Slot Written)) → sum_by record_length slots ≡ length (encode slots)
unfolding encode
lengths [] = refl
lengths (s ∷ slots) = sum_by-cons record_length s slots ∙ ap₂ (λ (m n : ℕ). m + n) (sym (length_encode_slot s)) (lengths slots) ∙ sym (length-append (encode_slot s) (encode slots))

pub returns : goal.returns
returns c = let total : c.sum.result ≡ sum_by record_length c.args.slots.now = search rules in total ∙ lengths c.args.slots.now
