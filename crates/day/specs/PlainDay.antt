-- The plain day: how many slots it can hold, and its slots.
use Rattle.std.specs.Prelude.{ℕ, List}
use Rattle.slots.specs.declared.slot.Slot.{Slot}

pub record PlainDay (C : Type 0) : Type 0 where
  pub room : ℕ
  pub slots : List (Slot C)
