-- The kinds of records: the byte of each, and the fields of its body in their order.
use Rattle.std.specs.Prelude.{ℕ, zero, suc, cond, List, [], ◌∷◌, Some, None, Option, ◌==◌}
use Rattle.std.specs.Int.{w8, w16, w32, w64}
use Rattle.curve.specs.Limits.{knee_limit}
use Rattle.curve.specs.declared.written.Written.{Written}
use Rattle.curve.specs.declared.written.Written.TheVariants.{Square, Band, Knees}
use Rattle.sheet.specs.Fields.{Field, unsigned, signed, size}
use Rattle.sheet.specs.declared.kinds.Kind.{Kind}
use Rattle.sheet.specs.declared.kinds.Kind.TheVariants.{Square as square, Band as band, Knees as knees}

-- the byte of each kind
abbrev pub kind_byte : Kind → ℕ
kind_byte square = 1
kind_byte band = 2
kind_byte knees = 3

-- the kind of a byte, if it is known
abbrev pub kind_of : ℕ → Option Kind
kind_of byte = cond (byte == 1) (Some square) (cond (byte == 2) (Some band) (cond (byte == 3) (Some knees) None))

-- knees: of each, its level and its step
abbrev pub knee_fields : ℕ → List Field
knee_fields zero = []
knee_fields (suc count) = unsigned w16 ∷ signed w32 ∷ knee_fields count

-- the fields of a curve: weight and target; cold edge, warm edge, cold rate and warm rate; ground, first step, count and six knees
abbrev pub curve_fields : Kind → List Field
curve_fields square = unsigned w32 ∷ unsigned w16 ∷ []
curve_fields band = unsigned w16 ∷ unsigned w16 ∷ unsigned w32 ∷ unsigned w32 ∷ []
curve_fields knees = signed w64 ∷ signed w32 ∷ unsigned w8 ∷ knee_fields knee_limit

-- the fields of a body: low, high, up and down, then those of the curve
abbrev pub fields : Kind → List Field
fields kind = unsigned w16 ∷ unsigned w16 ∷ unsigned w32 ∷ unsigned w32 ∷ curve_fields kind

-- the length of a body: 18, 24 and 61 bytes
abbrev pub body_length : Kind → ℕ
body_length kind = size (fields kind)

-- the kind of a curve
abbrev pub kind_of_curve : Written → Kind
kind_of_curve (Square weight target) = square
kind_of_curve (Band cold warm cold_rate warm_rate) = band
kind_of_curve (Knees base first count levels steps) = knees
