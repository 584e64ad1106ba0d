-- The second pass of leans, one slot at a time.
use Rattle.std.proofs.Common.{◌≡◌, ℕ, ◌+◌, ◌*◌, ◌<◌, ◌≤◌, true, List, [], ◌∷◌, ◌++◌, length, get_or, take, drop, set, ℤ, pos, neg_ℤ, ◌≤ℤ◌, sym, refl, ap, ◌∙◌, append_assoc, arith, length-append}
use Rattle.std.specs.List.{AllByRecursion}
use Rattle.std.proofs.ByRecursion.{All-get_or}
use Rattle.std.proofs.lemmas.List.{append-nil, get_or-take, take-take, take-set, drop-set, drop_all, drop_more, length_push, nil_from_length}
use Rattle.std.proofs.lemmas.Int.{ints}
use Rattle.curve.specs.Limits.{last_step, step_limit}
use Rattle.curve.specs.Tests.{and_left, and_right}
use Rattle.optimum.specs.Leans.{next_lean}
use Rattle.optimum.proofs.LeanPasses.{backward_lean, backward}
use Rattle.optimum.proofs.LeanSizes.{Sized, sized_wider, backward_lean_size}
use Rattle.slots.specs.Limits.{most_slots, toll_limit}
use Rattle.slots.specs.SlotTerms.{slot_terms, day_terms}
use Rattle.slots.specs.Slots.{proper, all_proper}
use Rattle.slots.specs.declared.slot.Slot.{Slot}
use Rattle.planner.proofs.SlotSizes.{proper_sized}

module _ {C : Type 0} (ground : C → ℤ) (steps : C → ℕ → ℤ) where
  -- the first of proper slots are proper, and so is the last
  firsts_proper : (ss : List (Slot C)) (s : Slot C) → all_proper (ss ++ (s ∷ [])) ≡ true → (all_proper ss ≡ true) × (proper s ≡ true)
  firsts_proper [] s good = (refl, and_left (proper s) true good)
  firsts_proper (s₀ ∷ ss) s good =
      let first = and_left (proper s₀) (all_proper (ss ++ (s ∷ []))) good in
      let rest = firsts_proper ss s (and_right (proper s₀) (all_proper (ss ++ (s ∷ []))) good) in
      (rw (first, rest.0), rest.1)

  -- the leans of the slots behind ss at the levels behind xs are made, next is the first of them, and those before them are as they were given
  pub record Made (slots : List (Slot C)) (levels : List ℕ) (given : List ℤ) (ss : List (Slot C)) (xs : List ℕ) (leans : List ℤ) (next : ℤ) : Type 0 where
    pub done_slots : List (Slot C)
    pub done_levels : List ℕ
    pub all_slots : slots ≡ ss ++ done_slots
    pub all_levels : levels ≡ xs ++ done_levels
    pub each : length xs ≡ length ss
    pub good : all_proper ss ≡ true
    pub made : drop (length ss) leans ≡ backward (day_terms ground steps done_slots) done_levels (drop (length ss) given)
    pub left : take (length ss) leans ≡ take (length ss) given
    pub first : next ≡ next_lean (backward (day_terms ground steps done_slots) done_levels (drop (length ss) given))
    pub size : Sized (most_slots * toll_limit + length done_slots * toll_limit) next

  -- behind the last slot nothing is made
  pub made_none :
      (slots : List (Slot C)) (levels : List ℕ) (given : List ℤ) → all_proper slots ≡ true → length levels ≡ length slots → length given ≡ length slots →
      Made slots levels given slots levels given (pos 0)
  unfolding backward next_lean
  made_none slots levels given good each long =
      record {
        done_slots = [];
        done_levels = [];
        all_slots = sym (append-nil slots);
        all_levels = sym (append-nil levels);
        each = each;
        good = good;
        made = drop_all (length slots) given (omega arith);
        left = refl;
        first = refl;
        size = record { least = omega (arith, ints); most = omega (arith, ints) };
      }

  -- the first of the leans that are made is small
  pub next_small :
      {slots : List (Slot C)} {levels : List ℕ} {given : List ℤ} {ss : List (Slot C)} {xs : List ℕ} {leans : List ℤ} {next : ℤ} →
      Made slots levels given ss xs leans next → length slots ≤ most_slots → Sized (2 * (most_slots * toll_limit)) next
  next_small {ss = ss} m few =
      let count = rw (m.all_slots, length-append) at few in
      sized_wider (most_slots * toll_limit + length m.done_slots * toll_limit) (2 * (most_slots * toll_limit)) (omega arith) _ m.size

  -- before the first slot all are
  pub made_all :
      {slots : List (Slot C)} {levels : List ℕ} {given : List ℤ} {ss : List (Slot C)} {xs : List ℕ} {leans : List ℤ} {next : ℤ} →
      Made slots levels given ss xs leans next → length ss ≡ 0 → leans ≡ backward (day_terms ground steps slots) levels given
  made_all {ss = ss} {xs} m end =
      let no_slots = nil_from_length ss end in
      let no_levels = nil_from_length xs (omega (arith, m.each)) in
      let made = rw no_slots at m.made in
      let slots = rw no_slots at m.all_slots in
      let levels = rw no_levels at m.all_levels in
      rw (slots, levels) made

  module _ {slots : List (Slot C)} {levels : List ℕ} {given : List ℤ} {left : List (Slot C)} {rest : List ℕ} {leans : List ℤ} {next : ℤ}
      (m : Made slots levels given left rest leans next) (ss : List (Slot C)) (s : Slot C) (xs : List ℕ) (x : ℕ) (p : left ≡ ss ++ (s ∷ [])) (q : rest ≡ xs ++ (x ∷ [])) where
    -- a slot with its level taken, there are still as many levels as slots
    pub still_each : length xs ≡ length ss
    still_each = let count = rw (p, q, length_push ss s, length_push xs x) at m.each in omega arith

    pub slot_proper : proper s ≡ true
    slot_proper = (firsts_proper ss s (rw p at m.good)).1

    -- its lean is still the given one
    unmade : get_or leans (length ss) (pos 0) ≡ get_or given (length ss) (pos 0)
    unmade =
        let n : ℕ = length ss in
        let same = rw (p, length_push) at m.left in
        sym (get_or-take (n + 1) leans n (pos 0) (omega arith)) ∙ ap (λ (ls : List ℤ). get_or ls n (pos 0)) same ∙ get_or-take (n + 1) given n (pos 0) (omega arith)

    module _ (small : AllByRecursion (Sized (most_slots * toll_limit)) given) (each : length given ≡ length slots) where
      inside : length ss < length given
      inside = let all = rw (p, append_assoc) at m.all_slots in let count = rw (all, length-append) at each in omega arith

      -- and so it is small
      pub small_lean : Sized (most_slots * toll_limit) (get_or leans (length ss) (pos 0))
      small_lean = rw unmade (All-get_or (Sized (most_slots * toll_limit)) given (length ss) (pos 0) inside small)

      -- one slot more
      pub made_more :
          (bounded : (c : C) (v : ℕ) → v ≤ last_step → (neg_ℤ (pos step_limit) ≤ℤ steps c v) × (steps c v ≤ℤ pos step_limit)) (lean : ℤ) → length leans ≡ length given →
          lean ≡ backward_lean (slot_terms ground steps s) x (get_or leans (length ss) (pos 0)) next → Made slots levels given ss xs (set leans (length ss) lean) lean
      unfolding backward next_lean
      made_more bounded lean same is =
          let n : ℕ = length ss in
          let good = firsts_proper ss s (rw p at m.good) in
          let behind = rw (p, length_push) at m.made in
          let front = rw (p, length_push) at m.left in
          let first = rw (p, length_push) at m.first in
          let within = inside in
          let given_more = drop_more given n (pos 0) within in
          let stored = drop-set leans n lean (omega arith) in
          let lean_is = rw (unmade, first) at is in
          let b : ℕ = most_slots * toll_limit + length m.done_slots * toll_limit in
          let own = sized_wider (most_slots * toll_limit) b (omega arith) (get_or leans n (pos 0)) small_lean in
          let size = backward_lean_size toll_limit b (slot_terms ground steps s) x (get_or leans n (pos 0)) next (proper_sized ground steps bounded s good.1) own m.size in
          record {
            done_slots = s ∷ m.done_slots;
            done_levels = x ∷ m.done_levels;
            all_slots = rw (p, append_assoc) at m.all_slots;
            all_levels = rw (q, append_assoc) at m.all_levels;
            each = still_each;
            good = good.0;
            made = rw (stored, behind, given_more, lean_is);
            left = take-set leans n lean ∙ sym (take-take n (n + 1) leans (omega arith)) ∙ ap (take n) front ∙ take-take n (n + 1) given (omega arith);
            first = rw (given_more) lean_is;
            size = rw is (sized_wider (b + toll_limit) (most_slots * toll_limit + length (s ∷ m.done_slots) * toll_limit) (omega arith) _ size);
          }
