-- The up and down tolls are a convex charge. What else is proved of them follows from these facts.
use Rattle.std.proofs.Common.{◌≡◌, ℕ, zero, suc, ◌-◌, ◌*◌, ◌↔◌, ℤ, pos, negsuc, ◌+ℤ◌, ◌-ℤ◌, neg_ℤ, ◌≤ℤ◌, ◌<ℤ◌, Some, None, Option, sym, refl, arith}
use Rattle.std.proofs.lemmas.Int.{ints}
use Rattle.std.proofs.lemmas.Bool.Decides.{nat_tests}
use Rattle.optimum.specs.Plans.{Terms, toll}
use Rattle.optimum.specs.Leans.{bounded, follows_move}
use Rattle.optimum.proofs.Climbs.{climb_constant, climb_negated}
use Rattle.optimum.proofs.Totals.{total}
use Rattle.optimum.proofs.Subgradients.{Subgradient}
use Rattle.optimum.proofs.Charges.{Moves, NeverFalls, charge, Supports}
use Rattle.optimum.proofs.Stands.{stand, MovesByRule}

-- the growth of the tolls up and down: the up toll from no move on, and minus the down toll below
abbrev pub growth : ℕ → ℕ → ℤ → ℤ
growth up down (pos n) = pos up
growth up down (negsuc n) = neg_ℤ (pos down)

module _ (up down : ℕ) where
  -- the growth never falls
  pub growth_rises : NeverFalls (growth up down)
  growth_rises (pos n) = omega (arith, ints)
  growth_rises (negsuc zero) = omega (arith, ints)
  growth_rises (negsuc (suc n)) = omega (arith, ints)

  -- it is minus the down toll for a move down
  pub growth_down : (d : ℤ) → d <ℤ pos 0 → growth up down d ≡ neg_ℤ (pos down)
  growth_down (pos n) falls = absurd (omega (arith, ints))
  growth_down (negsuc n) falls = refl

  -- and else the up toll
  pub growth_up : (d : ℤ) → pos 0 ≤ℤ d → growth up down d ≡ pos up
  growth_up (pos n) rises = refl
  growth_up (negsuc n) rises = absurd (omega (arith, ints))

  -- the charge with that growth is up times the rise or down times the fall
  pub charge_tolls : (u x : ℕ) → charge (growth up down) (Some u) x ≡ pos (up * (x - u)) +ℤ pos (down * (u - x))
  unfolding total
  charge_tolls u x = by (pos x -ℤ pos u) refl
    where
      by : (d : ℤ) → pos x -ℤ pos u ≡ d → total (growth up down) d ≡ pos (up * (x - u)) +ℤ pos (down * (u - x))
      by (pos n) e =
          let rise : x - u ≡ n = omega (arith, ints) in
          let fall : u - x ≡ 0 = omega (arith, ints) in
          rw (rise, fall, climb_constant up n) (omega (arith, ints))
      by (negsuc n) e =
          let rise : x - u ≡ 0 = omega (arith, ints) in
          let fall : u - x ≡ suc n = omega (arith, ints) in
          rw (rise, fall, climb_negated (λ k. pos down) (suc n), climb_constant down (suc n)) (omega (arith, ints))

-- the growth of a slot's tolls
abbrev pub toll_growth : Terms → ℤ → ℤ
toll_growth t = growth t.up t.down

-- the toll is the charge with that growth
pub toll_charge : (t : Terms) (b : Option ℕ) (x : ℕ) → toll t b x ≡ charge (toll_growth t) b x
unfolding toll
toll_charge t None x = refl
toll_charge t (Some u) x = sym (charge_tolls t.up t.down u x)

-- the rules on the move into a slot hold exactly if its lean supports that charge
pub move_rule : (t : Terms) (b : Option ℕ) (x : ℕ) (l n : ℤ) → MovesByRule (stand t b x l n) ↔ Supports (toll_growth t) b x l
unfolding bounded follows_move
move_rule t None x l n = (λ h. grind (arith, ints), λ e. grind (arith, ints))
move_rule t (Some u) x l n = by (pos x -ℤ pos u) refl
  where
    by : (d : ℤ) → pos x -ℤ pos u ≡ d → MovesByRule (stand t (Some u) x l n) ↔ Subgradient Moves (toll_growth t) l d
    by (pos zero) e = (λ h. grind (arith, ints, nat_tests), λ s. grind (arith, ints, nat_tests))
    by (pos (suc k)) e = (λ h. grind (arith, ints, nat_tests), λ s. grind (arith, ints, nat_tests))
    by (negsuc k) e = (λ h. grind (arith, ints, nat_tests), λ s. grind (arith, ints, nat_tests))
