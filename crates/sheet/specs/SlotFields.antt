-- A slot and what the fields of its record hold.
use Rattle.std.specs.Prelude.{ℕ, zero, suc, cond, List, [], ◌∷◌, ℤ, pos, nat_lt, slice_index_or}
use Rattle.curve.specs.Limits.{knee_limit}
use Rattle.curve.specs.declared.written.Written.{Written}
use Rattle.curve.specs.declared.written.Written.TheVariants.{Square, Band, Knees}
use Rattle.slots.specs.declared.slot.Slot.{Slot}
use Rattle.sheet.specs.Fields.{Values, values, packed}
use Rattle.sheet.specs.Kinds.{knee_fields, curve_fields, fields, kind_of_curve}
use Rattle.sheet.specs.declared.kinds.Kind.{Kind}
use Rattle.sheet.specs.declared.kinds.Kind.TheVariants.{Square as square, Band as band, Knees as knees}

-- the levels that knees hold
abbrev pub knee_levels : (count : ℕ) → Values (knee_fields count) → List ℕ
knee_levels zero vs = []
knee_levels (suc count) vs = vs.0 ∷ knee_levels count vs.1.1

-- and their steps
abbrev pub knee_steps : (count : ℕ) → Values (knee_fields count) → List ℤ
knee_steps zero vs = []
knee_steps (suc count) vs = vs.1.0 ∷ knee_steps count vs.1.1

-- the curve of a kind whose fields hold these values
abbrev pub curve_of : (kind : Kind) → Values (curve_fields kind) → Written
curve_of square vs = Square vs.0 vs.1.0
curve_of band vs = Band vs.0 vs.1.0 vs.1.1.0 vs.1.1.1.0
curve_of knees vs = Knees vs.0 vs.1.0 vs.1.1.0 (knee_levels knee_limit vs.1.1.1) (knee_steps knee_limit vs.1.1.1)

-- the slot of a kind whose fields hold these values
abbrev pub slot_with : (kind : Kind) → Values (fields kind) → Slot Written
slot_with kind vs = record { curve = curve_of kind vs.1.1.1.1; low = vs.0; high = vs.1.0; up = vs.1.1.0; down = vs.1.1.1.0 }

-- the slot of a body
abbrev pub slot_in : Kind → List ℕ → Slot Written
slot_in kind body = slot_with kind (values (fields kind) 0 body)

-- what is written of a number of the knee at a place: 0 if the count does not reach it
abbrev pub used : {X : Type 0} → ℕ → ℕ → List X → X → X
used count place xs nought = cond (nat_lt place count) (slice_index_or xs place nought) nought

-- what so many knees hold, from a place on
abbrev pub knee_values : (many : ℕ) → ℕ → ℕ → List ℕ → List ℤ → Values (knee_fields many)
knee_values zero place count levels steps = tt
knee_values (suc many) place count levels steps = (used count place levels 0, (used count place steps (pos 0), knee_values many (suc place) count levels steps))

-- what the fields of a curve hold
abbrev pub curve_values : (c : Written) → Values (curve_fields (kind_of_curve c))
curve_values (Square weight target) = (weight, (target, tt))
curve_values (Band cold warm cold_rate warm_rate) = (cold, (warm, (cold_rate, (warm_rate, tt))))
curve_values (Knees base first count levels steps) = (base, (first, (count, knee_values knee_limit 0 count levels steps)))

-- the bytes of a curve
abbrev pub curve_bytes : Written → List ℕ
curve_bytes c = packed (curve_fields (kind_of_curve c)) (curve_values c)

-- what the fields of a slot hold
abbrev pub slot_values : (s : Slot Written) → Values (fields (kind_of_curve s.curve))
slot_values s = (s.low, (s.high, (s.up, (s.down, curve_values s.curve))))

-- what a record keeps of a slot: all its numbers, but 0 for the knees past the count
abbrev pub as_written : Slot Written → Slot Written
as_written s = slot_with (kind_of_curve s.curve) (slot_values s)
