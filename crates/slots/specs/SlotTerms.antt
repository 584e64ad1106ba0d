-- The terms of slots, with what their curves mean.
use Rattle.std.specs.Prelude.{ℕ, List, map, ℤ}
use Rattle.optimum.specs.Plans.{Terms}
use Rattle.slots.specs.declared.slot.Slot.{Slot}

-- the terms of a slot
abbrev pub slot_terms : {C : Type 0} → (ground : C → ℤ) (steps : C → ℕ → ℤ) → Slot C → Terms
slot_terms ground steps s =
    record { ground = ground s.curve; steps = steps s.curve; low = s.low; high = s.high; up = s.up; down = s.down }

-- the terms of a day's slots
abbrev pub day_terms : {C : Type 0} → (ground : C → ℤ) (steps : C → ℕ → ℤ) → List (Slot C) → List Terms
day_terms ground steps slots = map (slot_terms ground steps) slots
