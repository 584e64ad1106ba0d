-- The plain day fed with calls: what each call makes of it, and what is told.
use Rattle.std.specs.Prelude.{ℕ, List, [], ◌∷◌, length, take, ℤ, Some, None, Ok, Err, vec_items, Option, Result}
use Rattle.optimum.specs.Plans.{Terms, price}
use Rattle.optimum.specs.Coldest.{plan}
use Rattle.day.specs.Edits.{add_refusal, replace_refusal, drop_refusal, add_slot, replace_slot, drop_slot}
use Rattle.slots.specs.Judging.{price_refusal, check_refusal}
use Rattle.slots.specs.SlotTerms.{day_terms}
use Rattle.day.specs.PlainDay.{PlainDay}
use Rattle.planner.specs.Planning.{plan_refusal}
use Rattle.slots.specs.Refusals.{refusal_number, refusal_slot}
use Rattle.day.specs.View.{wrote}
use Rattle.sheet.specs.Faults.{record_number}
use Rattle.sheet.specs.Sheets.{replaced, laid_over}
use Rattle.sheet.specs.declared.fault.SheetFault.{SheetFault}
use Rattle.slots.specs.declared.refusal.Refusal.{Refusal}
use Rattle.slots.specs.declared.slot.Slot.{Slot}
use Rattle.replay.specs.declared.answer.Answer.{Answer}
use Rattle.replay.specs.declared.answer.Answer.TheVariants.{Done, Cost, Planned}
use Rattle.replay.specs.declared.answer.CallFault.{CallFault}
use Rattle.replay.specs.declared.answer.CallFault.TheVariants.{Refused, Unread}
use Rattle.replay.specs.declared.call.Unfinished.{Unfinished}
use Rattle.replay.specs.declared.call.Buffers.{Buffers}
use Rattle.replay.specs.declared.call.Call.{Call}
use Rattle.replay.specs.declared.call.Call.TheVariants.{Add, Replace, Drop, Sheet, Price, Plan, Check}

-- what is told, leans apart: an edit is done, a cost, a plan with its cost and levels, a refusal's number and the slot that it names, or the number of a sheet's fault with its slot and its place
pub data Told : Type 0 where
  done : Told
  cost : ℤ → Told
  planned : ℤ → List ℕ → Told
  refused : ℕ → Option ℕ → Told
  unread : ℕ → ℕ → ℕ → Told

-- a refusal is told; where there is none, the answer
abbrev pub unless_refused : Option Refusal → Told → Told
unless_refused None told = told
unless_refused (Some refusal) told = refused (refusal_number refusal) (refusal_slot refusal)

-- a sheet is told as an edit that is done, or by its fault
abbrev pub read_told : {C : Type 0} → Result (List (Slot C)) SheetFault → Told
read_told (Ok slots) = done
read_told (Err fault) = unread (record_number fault.fault) fault.slot fault.place

module _ {C : Type 0} (decoded : ℕ → List ℕ → Result (List (Slot C)) SheetFault) where
  -- what a call makes of the plain day
  abbrev pub after : PlainDay C → Call C → PlainDay C
  after d (Add s) = add_slot d s
  after d (Replace i s) = replace_slot d i s
  after d Drop = drop_slot d
  after d (Sheet bytes) = replaced d (decoded d.room bytes.now)
  after d (Price xs) = d
  after d (Plan lengths) = d
  after d (Check xs ls) = d

  -- what the slot memory holds after a call: an accepted edit writes one slot whole, an accepted sheet its slots, and nothing else is written
  abbrev pub memory_after : PlainDay C → List (Slot C) → Call C → List (Slot C)
  memory_after d memory (Add s) = wrote (add_refusal d s) memory (length d.slots) s
  memory_after d memory (Replace i s) = wrote (replace_refusal d i s) memory i s
  memory_after d memory Drop = memory
  memory_after d memory (Sheet bytes) = laid_over memory (decoded d.room bytes.now)
  memory_after d memory (Price xs) = memory
  memory_after d memory (Plan lengths) = memory
  memory_after d memory (Check xs ls) = memory

  -- and after several calls
  abbrev pub memory_after_all : PlainDay C → List (Slot C) → List (Call C) → List (Slot C)
  memory_after_all d memory [] = memory
  memory_after_all d memory (c ∷ calls) = memory_after_all (after d c) (memory_after d memory c) calls

-- only a plan is lent buffers, for which memory can give out
abbrev pub Lent : {C : Type 0} → Call C → Type 0
Lent (Add s) = ⊥
Lent (Replace i s) = ⊥
Lent Drop = ⊥
Lent (Sheet bytes) = ⊥
Lent (Price xs) = ⊥
Lent (Plan lengths) = Unit {0}
Lent (Check xs ls) = ⊥

-- the calls that were made: all of them, or as many as the fault says
abbrev pub calls_made : {C X : Type 0} → Result X Unfinished → List (Call C) → List (Call C)
calls_made (Ok x) calls = calls
calls_made (Err fault) calls = take fault.made calls

module _ {C : Type 0} (ground : C → ℤ) (steps : C → ℕ → ℤ) where
  -- the terms of a plain day
  abbrev pub terms : PlainDay C → List Terms
  terms d = day_terms ground steps d.slots

  -- what the plain day tells of a plan with buffers of given lengths
  abbrev pub plan_told : PlainDay C → Buffers → Told
  plan_told d b = unless_refused (plan_refusal (length d.slots) b.levels b.leans b.table b.marks) (planned (price None (terms d) (plan None (terms d))) (plan None (terms d)))

  module _ (decoded : ℕ → List ℕ → Result (List (Slot C)) SheetFault) where
    -- what the plain day tells
    abbrev pub answer : PlainDay C → Call C → Told
    answer d (Add s) = unless_refused (add_refusal d s) done
    answer d (Replace i s) = unless_refused (replace_refusal d i s) done
    answer d Drop = unless_refused (drop_refusal d) done
    answer d (Sheet bytes) = read_told (decoded d.room bytes.now)
    answer d (Price xs) = unless_refused (price_refusal (terms d) xs.now) (cost (price None (terms d) xs.now))
    answer d (Plan b) = plan_told d b
    answer d (Check xs ls) = unless_refused (check_refusal (terms d) xs.now ls.now) (cost (price None (terms d) xs.now))

-- what the program tells, leans apart
abbrev pub told_by : Result Answer CallFault → Told
told_by (Ok Done) = done
told_by (Ok (Cost c)) = cost c
told_by (Ok (Planned c levels leans)) = planned c (vec_items levels)
told_by (Err (Refused refusal)) = refused (refusal_number refusal) (refusal_slot refusal)
told_by (Err (Unread fault)) = unread (record_number fault.fault) fault.slot fault.place
