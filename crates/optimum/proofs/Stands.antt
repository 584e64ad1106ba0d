-- The rules of a day, slot by slot.
use Rattle.std.proofs.Common.{◌≡◌, ℕ, true, ◌↔◌, List, [], ◌∷◌, ℤ, Some, Option, refl, arith}
use Rattle.optimum.specs.Plans.{Terms}
use Rattle.optimum.specs.Leans.{Stand, Obeys, stands, next_lean, bounded, follows_move, at_rest}

-- a slot as the rules look at it
abbrev pub stand : Terms → Option ℕ → ℕ → ℤ → ℤ → Stand
stand t b x l n = record { terms = t; before = b; level = x; lean = l; next = n }

-- the first two rules, which are on the move into a slot
abbrev pub MovesByRule : Stand → Type 0
MovesByRule s = (bounded s ≡ true) × (follows_move s ≡ true)

-- the third rule, which is on the slot itself
abbrev pub RestsByRule : Stand → Type 0
RestsByRule s = at_rest s ≡ true

-- the rules hold of a day with no slots
pub obeys_none : (b : Option ℕ) → Obeys b [] [] []
unfolding stands
obeys_none b = record { one_each = refl; bounds = tt; moves = tt; rests = tt }

-- the rules hold of a day exactly if they hold of its first slot and of the slots after it
pub obeys_first :
    (b : Option ℕ) (t : Terms) (ts : List Terms) (x : ℕ) (xs : List ℕ) (l : ℤ) (ls : List ℤ) →
    Obeys b (t ∷ ts) (x ∷ xs) (l ∷ ls)
    ↔ (MovesByRule (stand t b x l (next_lean ls)) × RestsByRule (stand t b x l (next_lean ls)) × Obeys (Some x) ts xs ls)
unfolding stands
obeys_first b t ts x xs l ls = (
  λ o. (
    (o.bounds.0, o.moves.0),
    o.rests.0,
    record { one_each = omega (arith, o.one_each); bounds = o.bounds.1; moves = o.moves.1; rests = o.rests.1 },
  ),
  λ h. record {
    one_each = omega (arith, h.2.one_each);
    bounds = (h.0.0, h.2.bounds);
    moves = (h.0.1, h.2.moves);
    rests = (h.1, h.2.rests);
  },
)
