-- The lean rules. A lean is the dual price of a move into its slot.
use Rattle.std.specs.Prelude.{◌≡◌, ℕ, ◌-◌, Bool, true, cond, ◌&&◌, ◌||◌, List, [], ◌∷◌, ℤ, pos, ◌-ℤ◌, neg_ℤ, Some, None, Option, int_le, nat_le, nat_lt}
use Rattle.std.specs.List.{AllByRecursion}
use Rattle.optimum.specs.Plans.{Terms}

-- what the rules look at in one slot: its terms, the level before it, if there is one, its level, its lean and the lean after it
pub record Stand : Type 0 where
  pub terms : Terms
  pub before : Option ℕ
  pub level : ℕ
  pub lean : ℤ
  pub next : ℤ

-- the first lean of a list; the lean after the last slot is 0
unfoldable pub next_lean : List ℤ → ℤ
next_lean [] = pos 0
next_lean (l ∷ ls) = l

-- the slots of a day as the rules look at them
unfoldable pub stands : Option ℕ → List Terms → List ℕ → List ℤ → List Stand
stands before [] xs ls = []
stands before (t ∷ ts) [] ls = []
stands before (t ∷ ts) (x ∷ xs) [] = []
stands before (t ∷ ts) (x ∷ xs) (l ∷ ls) =
    record { terms = t; before = before; level = x; lean = l; next = next_lean ls } ∷ stands (Some x) ts xs ls

-- two whole numbers are the same
abbrev pub same : ℤ → ℤ → Bool
same a b = int_le a b && int_le b a

-- first rule: with no level before, the lean is 0; else it lies from minus the down toll to the up toll
unfoldable pub bounded : Stand → Bool
bounded s = elim s.before [ None ↦ same s.lean (pos 0) | Some u ↦ int_le (neg_ℤ (pos s.terms.down)) s.lean && int_le s.lean (pos s.terms.up) ]

-- second rule: where the level rises, the lean is the up toll; where it falls, minus the down toll
unfoldable pub follows_move : Stand → Bool
follows_move s =
    elim s.before [
      | None ↦ true
      | Some u ↦ cond (nat_lt u s.level) (same s.lean (pos s.terms.up)) (cond (nat_lt s.level u) (same s.lean (neg_ℤ (pos s.terms.down))) true)
    ]

-- third rule: the slot is at rest, so that no step up costs less than the next lean gains over its own, and no step down saves more
unfoldable pub at_rest : Stand → Bool
at_rest s =
    let gain : ℤ = s.next -ℤ s.lean in
    (nat_le s.terms.high s.level || int_le gain (s.terms.steps s.level))
    && (nat_le s.level s.terms.low || int_le (s.terms.steps (s.level - 1)) gain)

-- leans obey the rules with a plan: one lean for each slot, and each rule holds in each slot
pub record Obeys (before : Option ℕ) (ts : List Terms) (xs : List ℕ) (ls : List ℤ) : Type 0 where
  pub one_each : lib.ListN.length ls ≡ lib.ListN.length ts
  pub bounds : AllByRecursion (λ s. bounded s ≡ true) (stands before ts xs ls)
  pub moves : AllByRecursion (λ s. follows_move s ≡ true) (stands before ts xs ls)
  pub rests : AllByRecursion (λ s. at_rest s ≡ true) (stands before ts xs ls)
