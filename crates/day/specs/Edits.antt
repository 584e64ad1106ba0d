-- The edits of a plain day: when they are refused, and what they make.
use Rattle.std.specs.Prelude.{ℕ, ◌-◌, List, [], ◌∷◌, ◌++◌, length, take, Some, None, Option, nat_lt, slice_set}
use Rattle.curve.specs.Answers.{broken}
use Rattle.slots.specs.Slots.{bounds_hold, tolls_hold}
use Rattle.day.specs.PlainDay.{PlainDay}
use Rattle.slots.specs.declared.slot.Slot.{Slot}
use Rattle.slots.specs.declared.refusal.Refusal.{Refusal}
use Rattle.slots.specs.declared.refusal.Refusal.TheVariants.{Bounds, Toll, Full, NoSlot}

abbrev pub add_refusal : {C : Type 0} → PlainDay C → Slot C → Option Refusal
add_refusal d s = broken ((bounds_hold s, Bounds) ∷ (tolls_hold s, Toll) ∷ (nat_lt (length d.slots) d.room, Full) ∷ [])

abbrev pub replace_refusal : {C : Type 0} → PlainDay C → ℕ → Slot C → Option Refusal
replace_refusal d i s = broken ((nat_lt i (length d.slots), NoSlot) ∷ (bounds_hold s, Bounds) ∷ (tolls_hold s, Toll) ∷ [])

abbrev pub drop_refusal : {C : Type 0} → PlainDay C → Option Refusal
drop_refusal d = broken ((nat_lt 0 (length d.slots), NoSlot) ∷ [])

-- an edit that is refused changes nothing
abbrev pub edited : {C : Type 0} → PlainDay C → Option Refusal → List (Slot C) → PlainDay C
edited d None slots = record { room = d.room; slots = slots }
edited d (Some refusal) slots = d

-- the slot is put at the end
abbrev pub add_slot : {C : Type 0} → PlainDay C → Slot C → PlainDay C
add_slot d s = edited d (add_refusal d s) (d.slots ++ s ∷ [])

-- the slot is put at the numbered place
abbrev pub replace_slot : {C : Type 0} → PlainDay C → ℕ → Slot C → PlainDay C
replace_slot d i s = edited d (replace_refusal d i s) (slice_set d.slots i s)

-- the last slot is taken off
abbrev pub drop_slot : {C : Type 0} → PlainDay C → PlainDay C
drop_slot d = edited d (drop_refusal d) (take (length d.slots - 1) d.slots)
