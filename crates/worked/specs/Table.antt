-- The worked examples: what is asked beside what is answered.
use Rattle.std.specs.Prelude.{◌≡◌, ℕ, List, [], ◌∷◌, map, pos, neg_ℤ, Some, None}
use Rattle.curve.specs.Limits.{top}
use Rattle.curve.specs.declared.written.Written.{Written}
use Rattle.curve.specs.declared.written.Written.TheVariants.{Square, Band, Knees}
use Rattle.slots.specs.declared.slot.Slot.{Slot}
use Rattle.worked.specs.Asking.{Asked, the_plan, the_check, the_costs, the_pair, Said, planned, accepted, costing, refused, answer}

-- a slot with a curve, open at all levels, and the same toll up and down
abbrev open_slot : Written → ℕ → Slot Written
open_slot c toll = record { curve = c; low = 0; high = top; up = toll; down = toll }

-- a day of squares of weight 1 with these targets
abbrev squares : ℕ → List ℕ → List (Slot Written)
squares toll targets = map (λ a. open_slot (Square 1 a) toll) targets

-- two bands without width, at 5 and at 9, with rates and tolls of 3
abbrev bands : List (Slot Written)
bands = open_slot (Band 5 5 3 3) 3 ∷ open_slot (Band 9 9 3 3) 3 ∷ []

abbrev pub table : List (Asked × Said)
table =
    -- an empty day
    (the_plan [], planned [] (pos 0))
    -- a target out of bounds
    ∷ (the_plan (record { curve = Square 1 1000; low = 0; high = 300; up = 0; down = 0 } ∷ []), planned (300 ∷ []) (pos 490000))
    -- tolls of 4 are worth a move
    ∷ (the_plan (squares 4 (10 ∷ 20 ∷ 10 ∷ [])), planned (12 ∷ 16 ∷ 12 ∷ []) (pos 56))
    ∷ (the_check (squares 4 (10 ∷ 20 ∷ 10 ∷ [])) (12 ∷ 16 ∷ 12 ∷ []) (pos 0 ∷ pos 4 ∷ neg_ℤ (pos 4) ∷ []), accepted (pos 56))
    -- tolls of 20 are not
    ∷ (the_plan (squares 20 (10 ∷ 20 ∷ 10 ∷ [])), planned (13 ∷ 13 ∷ 13 ∷ []) (pos 67))
    -- ties go cold
    ∷ (the_plan bands, planned (5 ∷ 5 ∷ []) (pos 12))
    ∷ (the_check bands (5 ∷ 5 ∷ []) (pos 0 ∷ pos 3 ∷ []), accepted (pos 12))
    -- and the leans of the cold plan accept a warm one that costs no more
    ∷ (the_check bands (9 ∷ 9 ∷ []) (pos 0 ∷ pos 3 ∷ []), accepted (pos 12))
    -- but not one that costs more
    ∷ (the_check bands (4 ∷ 5 ∷ []) (pos 0 ∷ pos 3 ∷ []), refused 19 (Some 0))
    -- rising is free, falling is not
    ∷ (the_plan (record { curve = Square 1 10; low = 0; high = top; up = 0; down = 6 } ∷ record { curve = Square 1 0; low = 0; high = top; up = 0; down = 6 } ∷ []), planned (7 ∷ 3 ∷ []) (pos 42))
    -- a curve with two knees
    ∷ (the_costs (Knees (pos 12) (neg_ℤ (pos 3)) 2 (4 ∷ 6 ∷ 0 ∷ 0 ∷ 0 ∷ 0 ∷ []) (pos 0 ∷ pos 5 ∷ pos 0 ∷ pos 0 ∷ pos 0 ∷ pos 0 ∷ [])) (0 ∷ 4 ∷ 6 ∷ 7 ∷ []), costing (pos 12 ∷ pos 0 ∷ pos 0 ∷ pos 5 ∷ []))
    -- steps that are too large together
    ∷ (the_pair (Square 400000 0) (Square 400000 0), refused 9 None)
    ∷ []

-- every example is answered as the table says
abbrev pub ExamplesHold : Type 0
ExamplesHold = map (λ e. answer e.0) table ≡ map (λ e. e.1) table
