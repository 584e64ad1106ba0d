-- Slots that the rules for bounds and tolls let into a day.
use Rattle.std.specs.Prelude.{Bool, true, ◌&&◌, List, [], ◌∷◌, nat_le}
use Rattle.curve.specs.Limits.{top}
use Rattle.slots.specs.Limits.{toll_limit}
use Rattle.slots.specs.declared.slot.Slot.{Slot}

-- low is not above high, and high not above the warmest level
abbrev pub bounds_hold : {C : Type 0} → Slot C → Bool
bounds_hold s = nat_le s.low s.high && nat_le s.high top

-- neither toll is above the largest
abbrev pub tolls_hold : {C : Type 0} → Slot C → Bool
tolls_hold s = nat_le s.up toll_limit && nat_le s.down toll_limit

-- the bounds and the tolls of a slot keep the rules
abbrev pub proper : {C : Type 0} → Slot C → Bool
proper s = bounds_hold s && tolls_hold s

abbrev pub all_proper : {C : Type 0} → List (Slot C) → Bool
all_proper [] = true
all_proper (s ∷ slots) = proper s && all_proper slots
