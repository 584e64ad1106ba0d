-- Knees past the count that are zero: what is written of them is what they are.
use Rattle.std.proofs.Common.{◌≡◌, ℕ, zero, suc, ◌≤◌, Bool, true, false, cond, eqb, ltb, List, [], ◌∷◌, map, get_or, drop, ℤ, pos, negsuc, nat_abs, sym, refl, ap, ◌∙◌, ap₂, arith, ltb-false, eqb-true}
use Rattle.curve.specs.Tests.{and_left, and_right}
use Rattle.sheet.specs.Fields.{Values}
use Rattle.sheet.specs.Kinds.{knee_fields}
use Rattle.sheet.specs.SlotFaults.{all_zero}
use Rattle.sheet.specs.SlotFields.{used, knee_levels, knee_steps, knee_values}

zero_past : (xs : List ℕ) (count place : ℕ) → all_zero (drop count xs) ≡ true → count ≤ place → get_or xs place 0 ≡ 0
zero_past [] count place zeros past = refl
zero_past (x ∷ xs) zero zero zeros past = eqb-true x 0 (and_left (eqb x 0) (all_zero xs) zeros)
zero_past (x ∷ xs) zero (suc place) zeros past = zero_past xs zero place (and_right (eqb x 0) (all_zero xs) zeros) (omega arith)
zero_past (x ∷ xs) (suc count) zero zeros past = absurd (omega arith)
zero_past (x ∷ xs) (suc count) (suc place) zeros past = zero_past xs count place zeros (omega arith)

pub size_at : (zs : List ℤ) (place : ℕ) → get_or (map nat_abs zs) place 0 ≡ nat_abs (get_or zs place (pos 0))
size_at [] place = refl
size_at (z ∷ zs) zero = refl
size_at (z ∷ zs) (suc place) = size_at zs place

zero_of_size : (z : ℤ) → nat_abs z ≡ 0 → z ≡ pos 0
zero_of_size (pos n) e = ap pos e
zero_of_size (negsuc n) e = absurd (omega arith)

used_same : {X : Type 0} (count place : ℕ) (xs : List X) (nought : X) → (count ≤ place → get_or xs place nought ≡ nought) → used count place xs nought ≡ get_or xs place nought
used_same count place xs nought past = by_test (ltb place count) refl
  where
    by_test : (t : Bool) → ltb place count ≡ t → cond t (get_or xs place nought) nought ≡ get_or xs place nought
    by_test true test = refl
    by_test false test = sym (past (ltb-false place count test))

pub next_drop : {X : Type 0} (xs : List X) (place : ℕ) (x : X) (more : List X) → drop place xs ≡ x ∷ more → drop (suc place) xs ≡ more
next_drop [] zero x more e = cc
next_drop [] (suc place) x more e = cc
next_drop (y ∷ xs) zero x more e = cc
next_drop (y ∷ xs) (suc place) x more e = next_drop xs place x more e

pub first_drop : {X : Type 0} (xs : List X) (place : ℕ) (x : X) (more : List X) (d : X) → drop place xs ≡ x ∷ more → get_or xs place d ≡ x
first_drop [] zero x more d e = cc
first_drop [] (suc place) x more d e = cc
first_drop (y ∷ xs) zero x more d e = cc
first_drop (y ∷ xs) (suc place) x more d e = first_drop xs place x more d e

module _ (count : ℕ) (levels : List ℕ) (steps : List ℤ) (no_levels : all_zero (drop count levels) ≡ true) (no_steps : all_zero (drop count (map nat_abs steps)) ≡ true) where
  level_same : (place : ℕ) → used count place levels 0 ≡ get_or levels place 0
  level_same place = used_same count place levels 0 (zero_past levels count place no_levels)

  step_same : (place : ℕ) → used count place steps (pos 0) ≡ get_or steps place (pos 0)
  step_same place = used_same count place steps (pos 0) (λ past. zero_of_size (get_or steps place (pos 0)) (sym (size_at steps place) ∙ zero_past (map nat_abs steps) count place no_steps past))

  -- what is written of knees is what they hold
  pub knee_values_same :
      (many place : ℕ) (ks : Values (knee_fields many)) → drop place levels ≡ knee_levels many ks → drop place steps ≡ knee_steps many ks → knee_values many place count levels steps ≡ ks
  knee_values_same zero place ks ls ss = refl
  knee_values_same (suc many) place ks ls ss =
      let level = level_same place ∙ first_drop levels place ks.0 (knee_levels many ks.1.1) 0 ls in
      let step = step_same place ∙ first_drop steps place ks.1.0 (knee_steps many ks.1.1) (pos 0) ss in
      let others = knee_values_same many (suc place) ks.1.1 (next_drop levels place ks.0 (knee_levels many ks.1.1) ls) (next_drop steps place ks.1.0 (knee_steps many ks.1.1) ss) in
      ap₂ (λ (l : ℕ) (rest : ℤ × Values (knee_fields many)). (l, rest)) level (ap₂ (λ (s : ℤ) (rest : Values (knee_fields many)). (s, rest)) step others)
