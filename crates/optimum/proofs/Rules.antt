-- The rules of a day, in terms of the leans that support the tolls and the slots that rest.
use Rattle.std.proofs.Common.{ℕ, ◌↔◌, List, ◌∷◌, ℤ, ◌-ℤ◌, Some, Option}
use Rattle.optimum.specs.Plans.{Terms, Within}
use Rattle.optimum.specs.Leans.{Obeys, next_lean}
use Rattle.optimum.proofs.Charges.{Supports}
use Rattle.optimum.proofs.Stands.{obeys_first}
use Rattle.optimum.proofs.Tolls.{toll_growth, move_rule}
use Rattle.optimum.proofs.Slots.{Rests, rest_rule}

-- the rules hold of a day exactly if the first lean supports the tolls, the first slot rests, and they hold of the slots after it
pub obeys_supports :
    (b : Option ℕ) (t : Terms) (ts : List Terms) (x : ℕ) (xs : List ℕ) (l : ℤ) (ls : List ℤ) → Within (t ∷ ts) (x ∷ xs) →
    Obeys b (t ∷ ts) (x ∷ xs) (l ∷ ls) ↔ ((Supports (toll_growth t) b x l × Rests t (next_lean ls -ℤ l) x) × Obeys (Some x) ts xs ls)
unfolding Within
obeys_supports b t ts x xs l ls p =
    let first = obeys_first b t ts x xs l ls in
    let move = move_rule t b x l (next_lean ls) in
    let slot = rest_rule t b x l (next_lean ls) p.0 p.1 in
    (λ o. let h = first.0 o in ((move.0 h.0, slot.0 h.1), h.2), λ h. first.1 (move.1 h.0.0, slot.1 h.0.1, h.1))
