-- Every run that follows the plain day keeps the whole promise.
use Rattle.std.proofs.Common.{◌≡◌, ℕ, suc, ◌-◌, ◌<◌, true, List, [], ◌∷◌, ◌++◌, length, take, set, ℤ, ◌≤ℤ◌, Some, None, Ok, Err, vec_items, Option, Result, refl, subst, arith}
use Rattle.std.specs.List.{AllByRecursion}
use Rattle.std.proofs.lemmas.Bool.Decides.{nat_tests}
use Rattle.curve.specs.Limits.{last_step}
use Rattle.optimum.specs.Plans.{Terms, Within, price, Cheapest}
use Rattle.optimum.specs.Leans.{Obeys}
use Rattle.optimum.specs.Coldest.{Coldest, plan}
use Rattle.optimum.specs.Theorems.{Convex}
use Rattle.optimum.proofs.Plan.{plan_is_coldest}
use Rattle.day.specs.Edits.{add_refusal, replace_refusal, drop_refusal, edited}
use Rattle.slots.specs.Judging.{check_refusal}
use Rattle.day.specs.PlainDay.{PlainDay}
use Rattle.planner.specs.Planning.{plan_refusal}
use Rattle.slots.specs.Slots.{all_proper}
use Rattle.day.specs.View.{empty_day}
use Rattle.replay.specs.PlainRun.{done, cost, planned, unless_refused, read_told, told_by, after, terms, answer}
use Rattle.replay.specs.Promise.{Accepted, Decided, DecidedUntilEdit, Best, Leaning, Answered, Follows, Sound, AlwaysSound, Promise}
use Rattle.replay.specs.declared.answer.Answer.{Answer}
use Rattle.replay.specs.declared.answer.Answer.TheVariants.{Done, Cost, Planned}
use Rattle.replay.specs.declared.answer.CallFault.{CallFault}
use Rattle.replay.specs.declared.answer.CallFault.TheVariants.{Refused, Unread}
use Rattle.replay.specs.declared.call.Buffers.{Buffers}
use Rattle.replay.specs.declared.call.Call.{Call}
use Rattle.replay.specs.declared.call.Call.TheVariants.{Add, Replace, Drop, Sheet, Price, Plan, Check}
use Rattle.replay.specs.declared.call.Moment.{Moment}
use Rattle.slots.specs.declared.refusal.Refusal.{Refusal}
use Rattle.slots.specs.declared.slot.Slot.{Slot}
use Rattle.sheet.specs.Sheets.{replaced}
use Rattle.sheet.specs.declared.fault.SheetFault.{SheetFault}
use Rattle.slots.proofs.Acceptance.{cheapest_from_accepted, accepted_from_cheapest}
use Rattle.planner.proofs.Convexity.{all_convex, all_open}
use Rattle.day.proofs.Fronts.{proper_push, proper_set, proper_take}

-- a check that is accepted was not refused
not_refused : (refusal : Option Refusal) (c : ℤ) (a : Result Answer CallFault) → told_by a ≡ unless_refused refusal (cost c) → Accepted a → refusal ≡ None
not_refused None c a told ok = refl
not_refused (Some refusal) c (Ok Done) told ok = absurd ok
not_refused (Some refusal) c (Ok (Cost d)) told ok = cc
not_refused (Some refusal) c (Ok (Planned d levels leans)) told ok = absurd ok
not_refused (Some refusal) c (Err fault) told ok = absurd ok

-- and one that is not refused is accepted
accepted : (refusal : Option Refusal) (c : ℤ) (a : Result Answer CallFault) → told_by a ≡ unless_refused refusal (cost c) → refusal ≡ None → Accepted a
accepted (Some refusal) c a told none = absurd cc
accepted None c (Ok Done) told none = cc
accepted None c (Ok (Cost d)) told none = tt
accepted None c (Ok (Planned d levels leans)) told none = cc
accepted None c (Err (Refused refusal)) told none = cc
accepted None c (Err (Unread fault)) told none = cc

-- a plan told is the one that there is to tell, with its cost
plan_told :
    (refusal : Option Refusal) (c d : ℤ) (xs ys : List ℕ) → planned c xs ≡ unless_refused refusal (planned d ys) → (c ≡ d) × (xs ≡ ys)
plan_told None c d xs ys told = (cc, cc)
plan_told (Some refusal) c d xs ys told = grind arith

module _ {C : Type 0} where
  -- an edit that is not told as done was refused, and changes nothing
  not_done :
      (d : PlainDay C) (refusal : Option Refusal) (slots : List (Slot C)) (a : Result Answer CallFault) → told_by a ≡ unless_refused refusal done → (told_by a ≡ done → ⊥) →
      edited d refusal slots ≡ d
  not_done d None slots a told undone = absurd (undone told)
  not_done d (Some refusal) slots a told undone = refl

  -- an edit keeps the slots proper, if it makes proper slots where it is not refused
  edit_proper :
      (d : PlainDay C) (refusal : Option Refusal) (slots : List (Slot C)) → all_proper d.slots ≡ true → (refusal ≡ None → all_proper slots ≡ true) →
      all_proper (edited d refusal slots).slots ≡ true
  edit_proper d None slots good made = made refl
  edit_proper d (Some refusal) slots good made = good

  -- a sheet that is not told as done was refused, and changes nothing
  not_read : (d : PlainDay C) (read : Result (List (Slot C)) SheetFault) (a : Result Answer CallFault) → told_by a ≡ read_told read → (told_by a ≡ done → ⊥) → replaced d read ≡ d
  not_read d (Ok slots) a told undone = absurd (undone told)
  not_read d (Err fault) a told undone = refl

  -- a sheet keeps the slots proper, if it has proper slots
  read_proper :
      (d : PlainDay C) (read : Result (List (Slot C)) SheetFault) → all_proper d.slots ≡ true → ((slots : List (Slot C)) → read ≡ Ok slots → all_proper slots ≡ true) →
      all_proper (replaced d read).slots ≡ true
  read_proper d (Ok slots) good kept = kept slots refl
  read_proper d (Err fault) good kept = good

module _ {C : Type 0} (decoded : ℕ → List ℕ → Result (List (Slot C)) SheetFault) (kept : (room : ℕ) (sheet : List ℕ) (slots : List (Slot C)) → decoded room sheet ≡ Ok slots → all_proper slots ≡ true) where
  -- every call keeps the slots proper
  after_proper : (d : PlainDay C) (c : Call C) → all_proper d.slots ≡ true → all_proper (after decoded d c).slots ≡ true
  after_proper d (Add s) good = edit_proper d (add_refusal d s) (d.slots ++ s ∷ []) good (λ e. proper_push d.slots s good (grind (arith, nat_tests)))
  after_proper d (Replace i s) good = edit_proper d (replace_refusal d i s) (set d.slots i s) good (λ e. proper_set d.slots i s good (grind (arith, nat_tests)))
  after_proper d Drop good = edit_proper d (drop_refusal d) (take (length d.slots - 1) d.slots) good (λ e. proper_take (length d.slots - 1) d.slots good)
  after_proper d (Sheet bytes) good = read_proper d (decoded d.room bytes.now) good (kept d.room bytes.now)
  after_proper d (Price xs) good = good
  after_proper d (Plan lengths) good = good
  after_proper d (Check xs ls) good = good

module _ {C : Type 0} (ground : C → ℤ) (steps : C → ℕ → ℤ) (decoded : ℕ → List ℕ → Result (List (Slot C)) SheetFault) where
  -- as long as no edit is told as done, the plain day stays the same
  stays : (d : PlainDay C) (c : Call C) (a : Result Answer CallFault) → told_by a ≡ answer ground steps decoded d c → (told_by a ≡ done → ⊥) → after decoded d c ≡ d
  stays d (Add s) a told undone = not_done d (add_refusal d s) (d.slots ++ s ∷ []) a told undone
  stays d (Replace i s) a told undone = not_done d (replace_refusal d i s) (set d.slots i s) a told undone
  stays d Drop a told undone = not_done d (drop_refusal d) (take (length d.slots - 1) d.slots) a told undone
  stays d (Sheet bytes) a told undone = not_read d (decoded d.room bytes.now) a told undone
  stays d (Price xs) a told undone = refl
  stays d (Plan lengths) a told undone = refl
  stays d (Check xs ls) a told undone = refl

  module _ (rising : (c : C) (v : ℕ) → v < last_step → steps c v ≤ℤ steps c (suc v)) where
    module _ (d : PlainDay C) (good : all_proper d.slots ≡ true) where
      -- the terms of the day, which are convex
      abbrev ts : List Terms
      ts = terms ground steps d

      convex : AllByRecursion Convex ts
      convex = all_convex ground steps rising d.slots good

      -- whatever a check accepts is cheapest
      certified : (xs : List ℕ) (ls : List ℤ) (a : Result Answer CallFault) → told_by a ≡ unless_refused (check_refusal ts xs ls) (cost (price None ts xs)) → Accepted a → Cheapest None ts xs
      certified xs ls a told ok = cheapest_from_accepted ts xs ls convex (not_refused (check_refusal ts xs ls) (price None ts xs) a told ok)

      module _ (xs : List ℕ) (ls : List ℤ) (within : Within ts xs) (obeys : Obeys None ts xs ls) where
        -- with leans that obey the rules with some plan, a check accepts exactly the cheapest plans
        decided : (c : Call C) (a : Result Answer CallFault) → told_by a ≡ answer ground steps decoded d c → Decided ts ls c a
        decided (Add s) a told = tt
        decided (Replace i s) a told = tt
        decided Drop a told = tt
        decided (Sheet bytes) a told = tt
        decided (Price ys) a told = tt
        decided (Plan lengths) a told = tt
        decided (Check ys ms) a told =
            λ same. (
              certified ys.now ms.now a told,
              λ best. accepted (check_refusal ts ys.now ms.now) (price None ts ys.now) a told (rw same (accepted_from_cheapest ts ys.now ls convex xs within obeys best)),
            )

        -- and so does every later check, until an edit is accepted
        decided_until_edit : (calls : List (Call C)) (moments : List (Moment C)) → Follows ground steps decoded d calls moments → DecidedUntilEdit ts ls calls moments
        decided_until_edit [] moments follows = tt
        decided_until_edit (c ∷ calls) [] follows = tt
        decided_until_edit (c ∷ calls) (m ∷ moments) follows =
            let told = follows.0.told in (
              decided c m.answer told,
              λ undone. decided_until_edit calls moments (subst (λ (e : PlainDay C). Follows ground steps decoded e calls moments) (stays d c m.answer told undone) follows.1),
            )

      -- a plan that is told is the coldest of the cheapest plans, with its price, and its leans decide
      best :
          (b : Buffers) (a : Result Answer CallFault) (calls : List (Call C)) (moments : List (Moment C)) →
          told_by a ≡ answer ground steps decoded d (Plan b) → Leaning ts a → Follows ground steps decoded d calls moments → Best ts a calls moments
      best b (Ok Done) calls moments told leaning follows = tt
      best b (Ok (Cost c)) calls moments told leaning follows = tt
      best b (Ok (Planned c levels leans)) calls moments told leaning follows =
          let refusal = plan_refusal (length d.slots) b.levels b.leans b.table b.marks in
          let same = plan_told refusal c (price None ts (plan None ts)) (vec_items levels) (plan None ts) told in
          let coldest : Coldest None ts (vec_items levels) = rw same.1 (plan_is_coldest None ts convex (all_open ground steps d.slots good)) in
          (cc, coldest, decided_until_edit (vec_items levels) (vec_items leans) coldest.cheapest.within leaning calls moments follows)
      best b (Err fault) calls moments told leaning follows = tt

      -- what is told of one call is sound
      sound :
          (c : Call C) (m : Moment C) (calls : List (Call C)) (moments : List (Moment C)) →
          Answered ground steps decoded d c m → Follows ground steps decoded (after decoded d c) calls moments → Sound ground steps decoded d c m.answer calls moments
      sound (Add s) m calls moments here follows = tt
      sound (Replace i s) m calls moments here follows = tt
      sound Drop m calls moments here follows = tt
      sound (Sheet bytes) m calls moments here follows = tt
      sound (Price xs) m calls moments here follows = tt
      sound (Plan b) m calls moments here follows = best b m.answer calls moments here.told here.leaning follows
      sound (Check xs ls) m calls moments here follows = certified xs.now ls.now m.answer here.told

    -- and so is what is told of every call, where the slots of sheets keep the rules
    module _ (kept : (room : ℕ) (sheet : List ℕ) (slots : List (Slot C)) → decoded room sheet ≡ Ok slots → all_proper slots ≡ true) where
      always_sound :
          (d : PlainDay C) → all_proper d.slots ≡ true → (calls : List (Call C)) (moments : List (Moment C)) →
          Follows ground steps decoded d calls moments → AlwaysSound ground steps decoded d calls moments
      always_sound d good [] moments follows = tt
      always_sound d good (c ∷ calls) [] follows = tt
      always_sound d good (c ∷ calls) (m ∷ moments) follows =
          (sound d good c m calls moments follows.0 follows.1, always_sound (after decoded d c) (after_proper decoded kept d c good) calls moments follows.1)

      -- every run that follows the plain day of a new memory keeps the whole promise
      pub promised :
          (memory : List (Slot C)) (calls : List (Call C)) (moments : List (Moment C)) →
          Follows ground steps decoded (empty_day memory) calls moments → Promise ground steps decoded memory calls moments
      promised memory calls moments follows = record { follows = follows; sound = always_sound (empty_day memory) refl calls moments follows }
