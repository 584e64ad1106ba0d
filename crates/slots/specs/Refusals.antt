-- The number of each refusal, and the slot that it names.
use Rattle.std.specs.Prelude.{ℕ, List, [], ◌∷◌, Some, None, Ok, Err, Option, Result}
use Rattle.curve.specs.Answers.{broken}
use Rattle.slots.specs.Slots.{bounds_hold, tolls_hold}
use Rattle.slots.specs.declared.refusal.Refusal.{Refusal}
use Rattle.slots.specs.declared.slot.Slot.{Slot}
use Rattle.slots.specs.declared.refusal.Refusal.TheVariants.{Bounds, Toll, Full, NoSlot, Short, Count, Outside, Lean, Move, Rest}

abbrev pub refusal_number : Refusal → ℕ
refusal_number Bounds = 10
refusal_number Toll = 11
refusal_number Full = 12
refusal_number NoSlot = 13
refusal_number Short = 14
refusal_number Count = 15
refusal_number (Outside slot) = 16
refusal_number (Lean slot) = 17
refusal_number (Move slot) = 18
refusal_number (Rest slot) = 19

abbrev pub refusal_slot : Refusal → Option ℕ
refusal_slot Bounds = None
refusal_slot Toll = None
refusal_slot Full = None
refusal_slot NoSlot = None
refusal_slot Short = None
refusal_slot Count = None
refusal_slot (Outside slot) = Some slot
refusal_slot (Lean slot) = Some slot
refusal_slot (Move slot) = Some slot
refusal_slot (Rest slot) = Some slot

-- what a call tells: its refusal, and where there is none, its answer
abbrev pub told : {X : Type 0} → Option Refusal → X → Result X Refusal
told None x = Ok x
told (Some refusal) x = Err refusal

-- the first refusal of several rules in their order
abbrev pub first_refusal : List (Option Refusal) → Option Refusal
first_refusal [] = None
first_refusal (None ∷ more) = first_refusal more
first_refusal (Some refusal ∷ more) = Some refusal

-- why a day does not take a slot, whatever its room
abbrev pub slot_refusal : {C : Type 0} → Slot C → Option Refusal
slot_refusal s = broken ((bounds_hold s, Bounds) ∷ (tolls_hold s, Toll) ∷ [])
