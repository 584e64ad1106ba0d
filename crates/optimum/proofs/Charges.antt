-- A convex charge for a move, by its growth from one whole move to the next, and the leans that support it.
use Rattle.std.proofs.Common.{◌≡◌, ℕ, zero, suc, ℤ, pos, ◌+ℤ◌, ◌-ℤ◌, ◌≤ℤ◌, Some, None, Option, refl, ap, ◌∙◌, arith}
use lib.IntN.{suc_ℤ, +ℤ_one}
use Rattle.std.proofs.lemmas.Int.{ints}
use Rattle.curve.specs.Meaning.{climb}
use Rattle.optimum.proofs.Totals.{total, total_suc, line, line_sub, line_flat}
use Rattle.optimum.proofs.LowerBounds.{LowerBound, bound_self, bound_shift}
use Rattle.optimum.proofs.Subgradients.{ConvexOn, Subgradient, subgradient_bound}

-- every move
abbrev pub Moves : ℤ → Type 0
Moves d = Unit {0}

-- the growth of a charge never falls
abbrev pub NeverFalls : (ℤ → ℤ) → Type 0
NeverFalls g = (d : ℤ) → g d ≤ℤ g (suc_ℤ d)

-- the charge for coming into level x from the level before, if there is one
abbrev pub charge : (ℤ → ℤ) → Option ℕ → ℕ → ℤ
charge g None x = pos 0
charge g (Some u) x = total g (pos x -ℤ pos u)

-- the growth of the charge over the levels, for a move that starts from level u
abbrev pub growth_from : (ℤ → ℤ) → ℕ → ℕ → ℤ
growth_from g u v = g (pos v -ℤ pos u)

-- to go one level higher is one more move
pub move_suc : (u v : ℕ) → pos (suc v) -ℤ pos u ≡ suc_ℤ (pos v -ℤ pos u)
move_suc u v = omega (arith, ints, +ℤ_one (pos v -ℤ pos u))

module _ (g : ℤ → ℤ) (u : ℕ) where
  -- where the growth never falls, it does not fall as the level rises
  pub growth_from_rises : NeverFalls g → (v : ℕ) → growth_from g u v ≤ℤ growth_from g u (suc v)
  growth_from_rises rises v = rw (move_suc u v) (rises (pos v -ℤ pos u))

  -- one level more costs what the charge grows by
  charge_suc : (v : ℕ) → charge g (Some u) (suc v) ≡ charge g (Some u) v +ℤ growth_from g u v
  charge_suc v = ap (total g) (move_suc u v) ∙ total_suc g (pos v -ℤ pos u)

  -- the charge is a climb, up to a constant
  pub charge_climb : (v : ℕ) → charge g (Some u) v ≡ charge g (Some u) 0 +ℤ climb (growth_from g u) v
  unfolding climb
  charge_climb zero = omega (arith, ints)
  charge_climb (suc v) = omega (arith, ints, charge_climb v, charge_suc v)

  -- it costs nothing to stay
  charge_stay : charge g (Some u) u ≡ pos 0
  unfolding total climb
  charge_stay = let none : pos u -ℤ pos u ≡ pos 0 = omega (arith, ints) in ap (total g) none

  -- the charge is the climb from the one level to the other
  pub charge_between : (v : ℕ) → charge g (Some u) v +ℤ climb (growth_from g u) u ≡ climb (growth_from g u) v
  charge_between v = omega (arith, ints, charge_climb v, charge_climb u, charge_stay)

-- the lean l supports the charge for coming into level x: it is a subgradient at the move, and 0 with no level before
abbrev pub Supports : (ℤ → ℤ) → Option ℕ → ℕ → ℤ → Type 0
Supports g None x l = l ≡ pos 0
Supports g (Some u) x l = Subgradient Moves g l (pos x -ℤ pos u)

-- the line of slope l at the level before, if there is one
abbrev pub line_before : ℤ → Option ℕ → ℤ
line_before l None = pos 0
line_before l (Some u) = line l (pos u)

-- a line of slope 0 at the level before
pub flat_before : (b : Option ℕ) → line_before (pos 0) b ≡ pos 0
flat_before None = refl
flat_before (Some u) = line_flat u

-- both have a level before, or neither has
abbrev pub Alike : Option ℕ → Option ℕ → Type 0
Alike None None = Unit {0}
Alike None (Some w) = ⊥
Alike (Some u) None = ⊥
Alike (Some u) (Some w) = Unit {0}

-- a plan is like itself in this
pub alike_self : (b : Option ℕ) → Alike b b
alike_self None = tt
alike_self (Some u) = tt

-- the bracket of a move: the charge less the line of the lean over the move
abbrev pub move_bracket : (ℤ → ℤ) → ℤ → Option ℕ → ℕ → ℤ
move_bracket g l b x = charge g b x +ℤ line_before l b -ℤ line l (pos x)

-- the bracket of a move is least where the lean supports the charge, and only there
pub move_bound :
    (g : ℤ → ℤ) → NeverFalls g → (l : ℤ) (b c : Option ℕ) (x y : ℕ) → Alike b c → Supports g b x l →
    LowerBound (Supports g c y l) (move_bracket g l b x) (move_bracket g l c y)
move_bound g rises l None None x y a e =
    let flat : (n : ℕ) → line l (pos n) ≡ pos 0 = λ n. rw e (line_flat n) in
    simp flat (bound_self (pos 0) e)
move_bound g rises l None (Some w) x y a e = absurd a
move_bound g rises l (Some u) None x y a s = absurd a
move_bound g rises l (Some u) (Some w) x y a s =
    let convex : ConvexOn Moves g = record { between = λ i k j p q h r. tt; rising = λ d p q. rises d } in
    let here = line_sub l (pos x) u in
    let there = line_sub l (pos y) w in
    bound_shift (pos 0) (omega (arith, ints)) (omega (arith, ints)) (λ q. q) (subgradient_bound Moves g convex l (pos x -ℤ pos u) (pos y -ℤ pos w) tt tt s)
