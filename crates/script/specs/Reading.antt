-- What lines say: the call of each, or the first that is not a call.
use Rattle.std.specs.Prelude.{ℕ, ◌+◌, min, Bool, true, false, cond, List, [], ◌∷◌, length, ℤ, pos, Some, None, codes, Option, ◌==◌, nat_le, slice_set}
use Rattle.std.proofs.Math.ListN as lists
use Rattle.std.specs.Str.{bytes_eq}
use Rattle.curve.specs.declared.written.Written.{Written}
use Rattle.curve.specs.declared.written.Written.TheVariants.{Square, Band, Knees}
use Rattle.slots.specs.declared.slot.Slot.{Slot}
use Rattle.replay.specs.declared.call.Buffers.{Buffers}
use Rattle.script.specs.declared.line.Knots.{Knots}
use Rattle.script.specs.Words.{cut, word, only_if, and_then, unsigned, signed, each}
use Rattle.script.specs.Bytes.{bytes_of}
use Rattle.script.specs.Entries.{PlainCall, add, replace, drop, sheet, price, plan, check}

-- the words are so many
abbrev pub exactly : {X : Type 0} → ℕ → List (List ℕ) → Option X → Option X
exactly n ws o = only_if (length ws == n) o

-- or more
abbrev pub at_least : {X : Type 0} → ℕ → List (List ℕ) → Option X → Option X
at_least n ws o = only_if (nat_le n (length ws)) o

-- WEIGHT TARGET
abbrev pub square_of : List (List ℕ) → Option Written
square_of ws =
    exactly 2 ws (and_then (unsigned 32 (word ws 0)) (λ weight. and_then (unsigned 16 (word ws 1)) (λ target.
    Some (Square weight target))))

-- COLD WARM COLDRATE WARMRATE
abbrev pub band_of : List (List ℕ) → Option Written
band_of ws =
    exactly 4 ws (and_then (unsigned 16 (word ws 0)) (λ cold. and_then (unsigned 16 (word ws 1)) (λ warm.
    and_then (unsigned 32 (word ws 2)) (λ coldRate. and_then (unsigned 32 (word ws 3)) (λ warmRate.
    Some (Band cold warm coldRate warmRate))))))

-- LEVEL STEP ...: each knee goes to the next of six places, and those past the sixth are only counted
abbrev pub knots_of : ℕ → List ℕ → List ℤ → List (List ℕ) → Option Knots
knots_of n levels steps [] = Some (record { count = n; levels = levels; steps = steps })
knots_of n levels steps (w ∷ []) = None
knots_of n levels steps (w ∷ v ∷ ws) =
    and_then (unsigned 16 w) (λ level. and_then (signed 31 v) (λ step. knots_of (n + 1) (slice_set levels n level) (slice_set steps n step) ws))

abbrev pub zeros : {X : Type 0} → X → List X
zeros x = x ∷ x ∷ x ∷ x ∷ x ∷ x ∷ []

-- GROUND FIRST LEVEL STEP ...: one knee at least; a count of knees past what its field holds is the most that it holds
abbrev pub knees_of : List (List ℕ) → Option Written
knees_of ws =
    at_least 4 ws (and_then (signed 63 (word ws 0)) (λ base. and_then (signed 31 (word ws 1)) (λ first.
    and_then (knots_of 0 (zeros 0) (zeros (pos 0)) (lists.drop 2 ws)) (λ knots.
    Some (Knees base first (min knots.count 255) knots.levels knots.steps)))))

-- a word, and what follows it
abbrev pub curve_of : List (List ℕ) → Option Written
curve_of [] = None
curve_of (kind ∷ ws) =
    cond (bytes_eq kind (codes "square")) (square_of ws)
    (cond (bytes_eq kind (codes "band")) (band_of ws)
    (cond (bytes_eq kind (codes "knees")) (knees_of ws) None))

-- LOW HIGH UP DOWN CURVE
abbrev pub slot_of : List (List ℕ) → Option (Slot Written)
slot_of ws =
    at_least 4 ws (and_then (unsigned 16 (word ws 0)) (λ low. and_then (unsigned 16 (word ws 1)) (λ high.
    and_then (unsigned 32 (word ws 2)) (λ up. and_then (unsigned 32 (word ws 3)) (λ down.
    and_then (curve_of (lists.drop 4 ws)) (λ curve.
    Some (record { curve = curve; low = low; high = high; up = up; down = down })))))))

-- SLOT, and the words of a slot
abbrev pub replace_of : List (List ℕ) → Option PlainCall
replace_of ws =
    at_least 1 ws (and_then (unsigned 64 (word ws 0)) (λ i. and_then (slot_of (lists.drop 1 ws)) (λ s. Some (replace i s))))

-- what the largest day needs
abbrev pub enough_for_all : Buffers
enough_for_all = record { levels = 192; leans = 192; table = 1023; marks = 384 }

-- LEVELS LEANS TABLE MARKS
abbrev pub lengths_of : List (List ℕ) → Option Buffers
lengths_of ws =
    and_then (unsigned 64 (word ws 0)) (λ levels. and_then (unsigned 64 (word ws 1)) (λ leans.
    and_then (unsigned 64 (word ws 2)) (λ table. and_then (unsigned 64 (word ws 3)) (λ marks.
    Some (record { levels = levels; leans = leans; table = table; marks = marks })))))

-- nothing, or the four lengths
abbrev pub buffers_of : List (List ℕ) → Option Buffers
buffers_of ws = cond (length ws == 0) (Some enough_for_all) (exactly 4 ws (lengths_of ws))

-- no words
abbrev pub drop_of : List (List ℕ) → Option PlainCall
drop_of ws = exactly 0 ws (Some drop)

-- nothing, or HEX
abbrev pub sheet_of : List (List ℕ) → Option PlainCall
sheet_of ws =
    cond (length ws == 0) (Some (sheet [])) (exactly 1 ws (and_then (bytes_of (word ws 0)) (λ bytes. Some (sheet bytes))))

-- the words before the first colon and those after it
abbrev pub sides : List (List ℕ) → Option (List (List ℕ) × List (List ℕ))
sides [] = None
sides (w ∷ ws) = cond (bytes_eq w (codes ":")) (Some ([], ws)) (and_then (sides ws) (λ s. Some (w ∷ s.0, s.1)))

-- LEVEL ... : LEAN ...
abbrev pub check_of : List (List ℕ) → Option PlainCall
check_of ws =
    and_then (sides ws) (λ s. and_then (each (unsigned 16) s.0) (λ levels. and_then (each (signed 63) s.1) (λ leans.
    Some (check levels leans))))

-- the call that the words of a line say
abbrev pub call_of : List (List ℕ) → Option PlainCall
call_of [] = None
call_of (verb ∷ ws) =
    cond (bytes_eq verb (codes "add")) (and_then (slot_of ws) (λ s. Some (add s)))
    (cond (bytes_eq verb (codes "replace")) (replace_of ws)
    (cond (bytes_eq verb (codes "drop")) (drop_of ws)
    (cond (bytes_eq verb (codes "sheet")) (sheet_of ws)
    (cond (bytes_eq verb (codes "price")) (and_then (each (unsigned 16) ws) (λ levels. Some (price levels)))
    (cond (bytes_eq verb (codes "plan")) (and_then (buffers_of ws) (λ b. Some (plan b)))
    (cond (bytes_eq verb (codes "check")) (check_of ws) None))))))

-- the length of the slot memory that the words of a line open
abbrev pub opening_of : List (List ℕ) → Option ℕ
opening_of ws = exactly 2 ws (only_if (bytes_eq (word ws 0) (codes "open")) (unsigned 64 (word ws 1)))

-- what a line says that is not blank: slot memory of a length is opened, or a call is made
pub data PlainLine : Type 0 where
  open_memory : ℕ → PlainLine
  make : PlainCall → PlainLine

-- only the first may open slot memory
abbrev pub line_of : Bool → List (List ℕ) → Option PlainLine
line_of first ws =
    elim (only_if first (opening_of ws)) [ Some slots ↦ Some (open_memory slots) | None ↦ and_then (call_of ws) (λ c. Some (make c)) ]

-- what a text says: the length of the slot memory and the calls, or the number of the first line that is neither blank nor a call
pub data Reading : Type 0 where
  journal : ℕ → List PlainCall → Reading
  not_a_call : ℕ → Reading

-- one call before others
abbrev pub before : PlainCall → Reading → Reading
before c (journal slots cs) = journal slots (c ∷ cs)
before c (not_a_call k) = not_a_call k

-- lines from the one with a given number on; blank ones are skipped
abbrev pub lines_from : Bool → ℕ → ℕ → List (List ℕ) → Reading
lines_from first slots k [] = journal slots []
lines_from first slots k ([] ∷ lines) = lines_from first slots (k + 1) lines
lines_from first slots k ((b ∷ bs) ∷ lines) =
    elim (line_of first (cut 32 (b ∷ bs))) [ None ↦ not_a_call k | Some (open_memory n) ↦ lines_from false n (k + 1) lines | Some (make c) ↦ before c (lines_from false slots (k + 1) lines) ]

-- lines count from 1; with no line that opens it, there is slot memory for the largest day
abbrev pub reading : List ℕ → Reading
reading text = lines_from true 192 1 (cut 10 text)
