-- The plain day that a day over lent memory stands for.
use Rattle.std.specs.Prelude.{ℕ, min, List, [], length, take, ℤ, Some, None, Option, slice_set}
use Rattle.slots.specs.Limits.{most_slots}
use Rattle.optimum.specs.Plans.{Terms}
use Rattle.slots.specs.SlotTerms.{day_terms}
use Rattle.day.specs.PlainDay.{PlainDay}
use Rattle.day.specs.declared.day.Day.{Day}
use Rattle.slots.specs.declared.refusal.Refusal.{Refusal}
use Rattle.slots.specs.declared.slot.Slot.{Slot}

-- as many slots as the memory has, at most the most of a day
abbrev pub room_of : {C : Type 0} → List (Slot C) → ℕ
room_of memory = min most_slots (length memory)

-- the slots are the first of the memory
abbrev pub plain : {C : Type 0} → Day C → PlainDay C
plain d = record { room = room_of d.slots.now; slots = take d.count d.slots.now }

-- the terms of its slots, with what their curves mean
abbrev pub terms_of : {C : Type 0} → (ground : C → ℤ) (steps : C → ℕ → ℤ) → Day C → List Terms
terms_of ground steps d = day_terms ground steps (plain d).slots

-- what the lent memory holds
abbrev pub memory_of : {C : Type 0} → Day C → List (Slot C)
memory_of d = d.slots.now

-- the day of a new memory has no slots
abbrev pub empty_day : {C : Type 0} → List (Slot C) → PlainDay C
empty_day memory = record { room = room_of memory; slots = [] }

-- one place of the memory is written whole, unless the edit is refused
abbrev pub wrote : {C : Type 0} → Option Refusal → List (Slot C) → ℕ → Slot C → List (Slot C)
wrote None memory i s = slice_set memory i s
wrote (Some refusal) memory i s = memory
