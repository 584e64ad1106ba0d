use Rattle.std.proofs.Common.{◌≡◌, suc, ◌&&◌, true, Bool, eqb, leb, List, [], ◌∷◌, map, drop, ℤ, pos, negsuc, nat_abs, refl, sym, ap, ap₂, ◌∙◌, arith, rules, eqb-true, eq-eqb}
use Rattle.std.proofs.lemmas.Bool.Decides.{same_from_decides, Decides-int_eq}
use Rattle.std.specs.Bool.{Decides}
use Rattle.std.specs.List.{list_all, drop-map}
use Rattle.std.specs.Ordering.{int_eq}
use Rattle.sheet.specs.SlotFaults.{all_zero}
use Rattle.sheet.proofs.record.unused_zero.Goals as goal

-- a step is zero where its size is
sized : (step : ℤ) → Decides (eqb (nat_abs step) 0) (step ≡ pos 0)
sized (pos n) = (λ e. ap pos (eqb-true n 0 e), λ e. eq-eqb n 0 (cc))
sized (negsuc n) = (λ e. let none : suc n ≡ 0 = eqb-true (suc n) 0 e in absurd (omega arith), λ e. cc)

sizes : (steps : List ℤ) → list_all (λ step. int_eq step (pos 0)) steps ≡ all_zero (map nat_abs steps)
sizes [] = refl
sizes (step ∷ steps) = ap₂ (λ (a b : Bool). a && b) (same_from_decides (int_eq step (pos 0)) (eqb (nat_abs step) 0) (Decides-int_eq step (pos 0)) (sized step)) (sizes steps)

pub returns-then-zero_past : goal.returns-then-zero_past
returns-then-zero_past c =
    let count = c.in-Knees.count in
    let counted : (leb 1 count && leb count 6) ≡ true = search rules in
    let levels : all_zero (drop count c.in-Knees.levels) ≡ true = sym c.if-zero_past.ensures in
    rw (c.in-Knees.is, counted, levels, drop-map nat_abs count c.in-Knees.steps) (c.zero_past-then-zero_past.ensures ∙ sizes (drop count c.in-Knees.steps))
