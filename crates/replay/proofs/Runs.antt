-- Runs of calls on a new day, one call more at a time.
use Rattle.std.proofs.Common.{◌≡◌, ℕ, ◌+◌, ◌<◌, List, [], ◌∷◌, ◌++◌, length, get_or, take, ℤ, vec_items, Result, sym, refl, ap, ◌∙◌}
use Rattle.std.proofs.lemmas.List.{take_more}
use Rattle.sheet.specs.declared.fault.SheetFault.{SheetFault}
use Rattle.day.specs.PlainDay.{PlainDay}
use Rattle.replay.specs.PlainRun.{told_by, after, memory_after, memory_after_all, terms, answer}
use Rattle.replay.specs.Promise.{Leaning, Answered, Follows}
use Rattle.day.specs.View.{empty_day}
use Rattle.replay.specs.declared.answer.Answer.{Answer}
use Rattle.replay.specs.declared.answer.CallFault.{CallFault}
use Rattle.replay.specs.declared.call.Call.{Call}
use Rattle.replay.specs.declared.call.Moment.{Moment}
use Rattle.slots.specs.declared.slot.Slot.{Slot}

module _ {C : Type 0} (decoded : ℕ → List ℕ → Result (List (Slot C)) SheetFault) where
  -- what several calls make of a plain day
  abbrev pub after_all : PlainDay C → List (Call C) → PlainDay C
  after_all d [] = d
  after_all d (c ∷ calls) = after_all (after decoded d c) calls

  -- one call more, of the day
  after_push : (d : PlainDay C) (calls : List (Call C)) (c : Call C) → after_all d (calls ++ c ∷ []) ≡ after decoded (after_all d calls) c
  after_push d [] c = refl
  after_push d (b ∷ calls) c = after_push (after decoded d b) calls c

  -- of the memory
  memory_push : (d : PlainDay C) (memory : List (Slot C)) (calls : List (Call C)) (c : Call C) → memory_after_all decoded d memory (calls ++ c ∷ []) ≡ memory_after decoded (after_all d calls) (memory_after_all decoded d memory calls) c
  memory_push d memory [] c = refl
  memory_push d memory (b ∷ calls) c = memory_push (after decoded d b) (memory_after decoded d memory b) calls c

  -- and of the moments
  follows_push :
      (ground : C → ℤ) (steps : C → ℕ → ℤ) (d : PlainDay C) (calls : List (Call C)) (moments : List (Moment C)) (c : Call C) (m : Moment C) →
      Follows ground steps decoded d calls moments → Answered ground steps decoded (after_all d calls) c m → Follows ground steps decoded d (calls ++ c ∷ []) (moments ++ m ∷ [])
  follows_push ground steps d [] [] c m follows answered = (answered, tt)
  follows_push ground steps d [] (n ∷ moments) c m follows answered = absurd follows
  follows_push ground steps d (b ∷ calls) [] c m follows answered = absurd follows
  follows_push ground steps d (b ∷ calls) (n ∷ moments) c m follows answered = (follows.0, follows_push ground steps (after decoded d b) calls moments c m follows.1 answered)

  -- calls were made on a new day over a memory: the day now, and what its memory holds
  pub record Ran (memory : List (Slot C)) (calls : List (Call C)) (d : PlainDay C) (held : List (Slot C)) : Type 0 where
    pub day_is : d ≡ after_all (empty_day memory) calls
    pub held_is : held ≡ memory_after_all decoded (empty_day memory) memory calls

  module _ (memory : List (Slot C)) (calls : List (Call C)) (i : ℕ) (c : Call C) (inside : i < length calls) (here : c ≡ get_or calls i c) (d : PlainDay C) (held : List (Slot C)) (ran : Ran memory (take i calls) d held) where
    -- the calls up to the next
    next_call : take (i + 1) calls ≡ take i calls ++ c ∷ []
    next_call = take_more calls i c inside ∙ ap (λ (x : Call C). take i calls ++ x ∷ []) (sym here)

    -- the next call is made
    pub ran_more : (d' : PlainDay C) (held' : List (Slot C)) → d' ≡ after decoded d c → held' ≡ memory_after decoded d held c → Ran memory (take (i + 1) calls) d' held'
    ran_more d' held' made written =
        let next = next_call in
        let so_far = ran.day_is in
        let before = ran.held_is in
        let day_next = after_push (empty_day memory) (take i calls) c in
        let held_next = memory_push (empty_day memory) memory (take i calls) c in
        record { day_is = cc; held_is = cc }

    -- and its moment is noted
    pub follows_more :
        (ground : C → ℤ) (steps : C → ℕ → ℤ) (moments moments' : List (Moment C)) (m : Moment C) → Follows ground steps decoded (empty_day memory) (take i calls) moments →
        moments' ≡ moments ++ m ∷ [] → Answered ground steps decoded d c m → Follows ground steps decoded (empty_day memory) (take (i + 1) calls) moments'
    follows_more ground steps moments moments' m follows noted answered =
        rw (noted, next_call) (follows_push ground steps (empty_day memory) (take i calls) moments c m follows (rw ran.day_is at answered))

  -- a moment with the answer to a call and the slots after it
  pub answered_from :
      (ground : C → ℤ) (steps : C → ℕ → ℤ) (d d' : PlainDay C) (c : Call C) (m : Moment C) (a : Result Answer CallFault) → m.answer ≡ a → vec_items m.slots ≡ d'.slots → d' ≡ after decoded d c →
      told_by a ≡ answer ground steps decoded d c → Leaning (terms ground steps d) a → Answered ground steps decoded d c m
  answered_from ground steps d d' c m a same slots made told leaning =
      record { slots = slots ∙ ap (λ (x : PlainDay C). x.slots) made; told = ap told_by same ∙ told; leaning = rw same leaning }
