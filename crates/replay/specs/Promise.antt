-- The whole promise, as a law on runs: for every call of a run of calls on a new day.
use Rattle.std.specs.Prelude.{◌≡◌, ℕ, List, [], ◌∷◌, ℤ, None, Ok, Err, vec_items, Result, ◌≢◌}
use Rattle.optimum.specs.Plans.{Terms, price, Cheapest}
use Rattle.optimum.specs.Leans.{Obeys}
use Rattle.optimum.specs.Coldest.{Coldest}
use Rattle.day.specs.PlainDay.{PlainDay}
use Rattle.day.specs.View.{empty_day}
use Rattle.slots.specs.declared.slot.Slot.{Slot}
use Rattle.sheet.specs.declared.fault.SheetFault.{SheetFault}
use Rattle.replay.specs.PlainRun.{done, told_by, after, terms, answer}
use Rattle.replay.specs.declared.answer.Answer.{Answer}
use Rattle.replay.specs.declared.answer.Answer.TheVariants.{Done, Cost, Planned}
use Rattle.replay.specs.declared.answer.CallFault.{CallFault}
use Rattle.replay.specs.declared.call.Call.{Call}
use Rattle.replay.specs.declared.call.Call.TheVariants.{Add, Replace, Drop, Sheet, Price, Plan, Check}
use Rattle.replay.specs.declared.call.Moment.{Moment}

-- a check is accepted where a cost is told
abbrev pub Accepted : Result Answer CallFault → Type 0
Accepted (Ok Done) = ⊥
Accepted (Ok (Cost c)) = Unit {0}
Accepted (Ok (Planned c levels leans)) = ⊥
Accepted (Err fault) = ⊥

-- with given leans a check accepts exactly the cheapest plans
abbrev pub Decided : {C : Type 0} → List Terms → List ℤ → Call C → Result Answer CallFault → Type 0
Decided ts leans (Add s) a = Unit {0}
Decided ts leans (Replace i s) a = Unit {0}
Decided ts leans Drop a = Unit {0}
Decided ts leans (Sheet bytes) a = Unit {0}
Decided ts leans (Price xs) a = Unit {0}
Decided ts leans (Plan lengths) a = Unit {0}
Decided ts leans (Check xs ls) a = ls.now ≡ leans → (Accepted a → Cheapest None ts xs.now) × (Cheapest None ts xs.now → Accepted a)

-- and so does every later check, until an edit is accepted
abbrev pub DecidedUntilEdit : {C : Type 0} → List Terms → List ℤ → List (Call C) → List (Moment C) → Type 0
DecidedUntilEdit ts leans [] moments = Unit {0}
DecidedUntilEdit ts leans (c ∷ calls) [] = Unit {0}
DecidedUntilEdit ts leans (c ∷ calls) (m ∷ moments) =
    Decided ts leans c m.answer × ((told_by m.answer ≢ done) → DecidedUntilEdit ts leans calls moments)

-- a plan answered: its cost is its price, it is the coldest of the cheapest plans, and its leans decide
abbrev pub Best : {C : Type 0} → List Terms → Result Answer CallFault → List (Call C) → List (Moment C) → Type 0
Best ts (Ok Done) calls moments = Unit {0}
Best ts (Ok (Cost c)) calls moments = Unit {0}
Best ts (Ok (Planned c levels leans)) calls moments =
    (c ≡ price None ts (vec_items levels)) × Coldest None ts (vec_items levels) × DecidedUntilEdit ts (vec_items leans) calls moments
Best ts (Err fault) calls moments = Unit {0}

-- the leans answered beside a plan obey the rules with it
abbrev pub Leaning : List Terms → Result Answer CallFault → Type 0
Leaning ts (Ok Done) = Unit {0}
Leaning ts (Ok (Cost c)) = Unit {0}
Leaning ts (Ok (Planned c levels leans)) = Obeys None ts (vec_items levels) (vec_items leans)
Leaning ts (Err fault) = Unit {0}

module _ {C : Type 0} (ground : C → ℤ) (steps : C → ℕ → ℤ) (decoded : ℕ → List ℕ → Result (List (Slot C)) SheetFault) where
  -- one moment: the slots and the answer are the plain day's, leans apart, and those obey the rules
  pub record Answered (d : PlainDay C) (c : Call C) (m : Moment C) : Type 0 where
    pub slots : vec_items m.slots ≡ (after decoded d c).slots
    pub told : told_by m.answer ≡ answer ground steps decoded d c
    pub leaning : Leaning (terms ground steps d) m.answer

  -- moment by moment
  abbrev pub Follows : PlainDay C → List (Call C) → List (Moment C) → Type 0
  Follows d [] [] = Unit {0}
  Follows d [] (m ∷ moments) = ⊥
  Follows d (c ∷ calls) [] = ⊥
  Follows d (c ∷ calls) (m ∷ moments) = Answered d c m × Follows (after decoded d c) calls moments

  -- what holds of one call, with the calls and moments after it
  abbrev pub Sound : PlainDay C → Call C → Result Answer CallFault → List (Call C) → List (Moment C) → Type 0
  Sound d (Add s) a calls moments = Unit {0}
  Sound d (Replace i s) a calls moments = Unit {0}
  Sound d Drop a calls moments = Unit {0}
  Sound d (Sheet bytes) a calls moments = Unit {0}
  Sound d (Price xs) a calls moments = Unit {0}
  Sound d (Plan lengths) a calls moments = Best (terms ground steps d) a calls moments
  Sound d (Check xs ls) a calls moments = Accepted a → Cheapest None (terms ground steps d) xs.now

  -- and so of every call of the run
  abbrev pub AlwaysSound : PlainDay C → List (Call C) → List (Moment C) → Type 0
  AlwaysSound d [] moments = Unit {0}
  AlwaysSound d (c ∷ calls) [] = Unit {0}
  AlwaysSound d (c ∷ calls) (m ∷ moments) = Sound d c m.answer calls moments × AlwaysSound (after decoded d c) calls moments

  -- the whole promise on a run of calls on a new day over a slot memory
  pub record Promise (memory : List (Slot C)) (calls : List (Call C)) (moments : List (Moment C)) : Type 0 where
    -- after each call the slots are the plain day's after the same calls, and so is every answer
    pub follows : Follows (empty_day memory) calls moments
    -- every plan answered is cheapest and coldest, and whatever a check accepts is cheapest
    pub sound : AlwaysSound (empty_day memory) calls moments
