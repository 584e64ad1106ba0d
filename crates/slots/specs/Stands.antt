-- A slot as the rules of leans look at it, and what it means to try a rule.
use Rattle.std.specs.Prelude.{◌≡◌, ℕ, Bool, ◌&&◌, ℤ, nat_le}
use Rattle.std.specs.Fn.{Shared, FnReturnsAt}
use Rattle.std.specs.Borrow.{Bor}
use Rattle.curve.specs.Limits.{top, held_by}
use Rattle.optimum.specs.Leans as leans
use Rattle.slots.specs.Limits.{toll_limit}
use Rattle.slots.specs.SlotTerms.{slot_terms}
use Rattle.slots.specs.declared.rules.Stand.{Stand}

-- what a rule says of a slot
abbrev pub Rule : Type 0
Rule = leans.Stand → Bool

-- the levels are levels, and both leans lie within the largest toll, so that they can be subtracted
abbrev pub small : leans.Stand → Bool
small s = (nat_le s.level top && nat_le s.terms.high top) && (held_by toll_limit s.lean && held_by toll_limit s.next)

module _ {C : Type 0} (ground : C → ℤ) (steps : C → ℕ → ℤ) where
  -- a slot with the terms that its curve means
  abbrev pub slot_stand : Stand C → leans.Stand
  slot_stand s = record { terms = slot_terms ground steps s.slot.now; before = s.before; level = s.level; lean = s.lean; next = s.next }

  module _ {F : Type 0} (calls : Shared F (Bor (Stand C) × Unit {0}) Bool) (f : F) where
    -- a function may be asked of a slot
    abbrev pub Triable : leans.Stand → Type 0
    Triable stand = (s : Bor (Stand C)) → slot_stand s.now ≡ stand → calls.pre f (s, tt)

    -- a function answers at each slot what a rule says of it
    abbrev pub Tries : Rule → Type 0
    Tries rule = (s : Stand C) (answer : Bool) → FnReturnsAt calls f s answer → answer ≡ rule (slot_stand s)
