-- An accepted sheet counts as the edits that make the same day: all slots are dropped, and then the sheet's are added.
use Rattle.std.specs.Prelude.{◌≡◌, ℕ, zero, suc, List, [], ◌∷◌, length}
use Rattle.curve.specs.declared.written.Written.{Written}
use Rattle.day.specs.Edits.{add_slot, drop_slot}
use Rattle.day.specs.PlainDay.{PlainDay}
use Rattle.slots.specs.declared.slot.Slot.{Slot}

-- so many slots are dropped
abbrev pub after_drops : ℕ → PlainDay Written → PlainDay Written
after_drops zero d = d
after_drops (suc n) d = after_drops n (drop_slot d)

-- slots are added, one after another
abbrev pub after_adds : PlainDay Written → List (Slot Written) → PlainDay Written
after_adds d [] = d
after_adds d (s ∷ slots) = after_adds (add_slot d s) slots

-- a day is what dropping all slots of another and adding its own makes of that
abbrev pub MadeByEdits : PlainDay Written → PlainDay Written → Type 0
MadeByEdits d after = after ≡ after_adds (after_drops (length d.slots) d) after.slots
