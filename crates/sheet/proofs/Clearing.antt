-- What a drop tells of the slots that are left.
use Rattle.std.proofs.Common.{◌≡◌, ◌-◌, ◌<◌, Bool, true, false, ltb, ◌⊎◌, [], length, take, is_ok, Result, refl, ap, ◌∙◌, inl, inr, arith, length-take, ltb-false, ltb-true}
use Rattle.std.proofs.lemmas.List.{length-take-le, nil_from_length}
use Rattle.curve.specs.declared.written.Written.{Written}
use Rattle.day.specs.Edits.{drop_refusal, drop_slot}
use Rattle.day.specs.PlainDay.{PlainDay}
use Rattle.slots.specs.Refusals.{told}
use Rattle.day.specs.View.{plain}
use Rattle.day.specs.declared.day.Day.{Day}
use Rattle.slots.specs.declared.refusal.Refusal.{Refusal}

module _ (d after : Day Written) (r : Result (Unit {0}) Refusal) (answer : r ≡ told (drop_refusal (plain d)) tt) (day : plain after ≡ drop_slot (plain d)) where
  by_test :
      (t : Bool) → ltb 0 (length (plain d).slots) ≡ t →
      ((is_ok r ≡ true) × (0 < length (plain d).slots) × ((plain after).slots ≡ take (length (plain d).slots - 1) (plain d).slots)) ⊎ ((is_ok r ≡ false) × ((plain after).slots ≡ []))
  by_test true e =
      let kept = rw e at day in
      let accepted = rw e at answer in
      inl (ap is_ok accepted, ltb-true _ _ e, ap (λ (p : PlainDay Written). p.slots) kept)
  by_test false e =
      let kept = rw e at day in
      let refused = rw e at answer in
      let none : length (plain d).slots ≡ 0 = omega (arith, ltb-false 0 (length (plain d).slots) e) in
      inr (ap is_ok refused, ap (λ (p : PlainDay Written). p.slots) kept ∙ nil_from_length (plain d).slots none)

  -- an accepted one leaves fewer
  pub dropped : true ≡ is_ok r → after.count < d.count
  dropped ok =
      elim (by_test (ltb 0 (length (plain d).slots)) refl) [
        | inl p ↦
            let before = length-take-le d.count _ d.stored in
            let left = length-take-le after.count _ after.stored in
            let many = p.1 in
            let fewer = simp length-take at (ap length p.2) in
            omega arith
        | inr p ↦ let clash : ◌≡◌ {A = Bool} true false = ok ∙ p.0 in cc
      ]

  -- a refused one leaves none
  pub emptied : false ≡ is_ok r → (plain after).slots ≡ []
  emptied refused =
      elim (by_test (ltb 0 (length (plain d).slots)) refl) [
        | inl p ↦ let clash : ◌≡◌ {A = Bool} false true = refused ∙ p.0 in cc
        | inr p ↦ p.1
      ]
