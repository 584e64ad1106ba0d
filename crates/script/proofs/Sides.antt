-- The first colon stands between the two sides.
use Rattle.std.proofs.Common.{◌≡◌, ℕ, suc, ◌+◌, ◌<◌, Bool, true, false, cond, ltb, List, [], ◌∷◌, length, take, drop, Some, None, MatchOption, codes, Option, refl, arith, Bor}
use Rattle.std.proofs.lemmas.Iterator.Adapters.{position_from-zero}
use Rattle.std.specs.List.{position_from, position_or_len}
use Rattle.std.specs.Str.{bytes_eq}
use Rattle.script.specs.Answers.{texts}
use Rattle.script.specs.Reading.{sides}
use Rattle.script.proofs.Texts.{Words}

abbrev pub is_colon : Bor (List ℕ) → Bool
is_colon w = bytes_eq w.now (codes ":")

-- a place, counted from a given number on, has the sides before it and after it
abbrev Parts : ℕ → Words → ℕ → Type 0
Parts k ws i = (j : ℕ) × (i ≡ k + j) × (j < length ws) × (sides (texts ws) ≡ Some (texts (take j ws), texts (drop (j + 1) ws)))

further : (k : ℕ) (w : Bor (List ℕ)) (ws : Words) (o : Option ℕ) → is_colon w ≡ false → MatchOption o (sides (texts ws) ≡ None) (Parts (k + 1) ws) → MatchOption o (sides (texts (w ∷ ws)) ≡ None) (Parts k (w ∷ ws))
further k w ws None other none = rw (other, none) refl
further k w ws (Some i) other (j, at, less, said) =
    let e : suc j + 1 ≡ suc (j + 1) = omega arith in
    (suc j, omega (arith, at), omega (arith, less), rw (e, other, said) refl)

step : (k : ℕ) (w : Bor (List ℕ)) (ws : Words) (b : Bool) → is_colon w ≡ b → MatchOption (position_from is_colon (k + 1) ws) (sides (texts ws) ≡ None) (Parts (k + 1) ws) → MatchOption (cond b (Some k) (position_from is_colon (k + 1) ws)) (sides (texts (w ∷ ws)) ≡ None) (Parts k (w ∷ ws))
step k w ws true is more = (0, omega arith, omega arith, rw is refl)
step k w ws false is more = further k w ws (position_from is_colon (k + 1) ws) is more

places : (k : ℕ) (ws : Words) → MatchOption (position_from is_colon k ws) (sides (texts ws) ≡ None) (Parts k ws)
places k [] = refl
places k (w ∷ ws) = step k w ws (is_colon w) refl (places (k + 1) ws)

from_start : (ws : Words) (o : Option ℕ) → MatchOption o (sides (texts ws) ≡ None) (Parts 0 ws) → MatchOption o (sides (texts ws) ≡ None) (λ i. (i < length ws) × (sides (texts ws) ≡ Some (texts (take i ws), texts (drop (i + 1) ws))))
from_start ws None none = none
from_start ws (Some i) (j, at, less, said) = let e : i ≡ j = omega (arith, at) in rw e (less, said)

pub sides_at : (ws : Words) (r : Option ℕ) → r ≡ cond (ltb (position_or_len is_colon ws) (length ws)) (Some (position_or_len is_colon ws)) None → MatchOption r (sides (texts ws) ≡ None) (λ i. (i < length ws) × (sides (texts ws) ≡ Some (texts (take i ws), texts (drop (i + 1) ws))))
sides_at ws r is = rw (is, position_from-zero is_colon ws) (from_start ws (position_from is_colon 0 ws) (places 0 ws))
