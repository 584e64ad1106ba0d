-- A table that a loop fills anew, one place a turn.
use Rattle.std.proofs.Common.{◌≡◌, ℕ, ◌+◌, ◌<◌, ◌≤◌, cond, ◌&&◌, ltb, leb, List, length, get_or, set, ℤ, pos, inl, inr, ◌∙◌, arith, length-set}
use Rattle.std.proofs.lemmas.List.{get_or-set_same, get_or-set_other}
use Rattle.std.proofs.lemmas.Bool.{cases_eq}
use Rattle.std.proofs.lemmas.Bool.Decides.{nat_tests}
use Rattle.curve.specs.Limits.{last_step}
use Rattle.slots.specs.Limits.{table_length}

-- from low up to level the table has what `new` says, elsewhere what it had before, and it is as long as a work table
pub record Filled (before : List ℤ) (new : ℕ → ℤ) (low level : ℕ) (table : List ℤ) : Type 0 where
  pub long : length table ≡ table_length
  pub at : (v : ℕ) → v ≤ last_step → get_or table v (pos 0) ≡ cond (leb low v && ltb v level) (new v) (get_or before v (pos 0))

module _ {before : List ℤ} {new : ℕ → ℤ} {low : ℕ} where
  -- at first all is as before
  pub filled_none : length before ≡ table_length → Filled before new low low before
  filled_none long = record { long = long; at = λ v within. grind (arith, nat_tests) }

  -- the place of the next turn is as before
  pub filled_next : {level : ℕ} {table : List ℤ} → Filled before new low level table → level ≤ last_step → get_or table level (pos 0) ≡ get_or before level (pos 0)
  filled_next {level} so_far within = let here = so_far.at level within in grind (arith, nat_tests)

  -- a turn fills it
  pub filled_more : {level : ℕ} {table : List ℤ} {x : ℤ} → Filled before new low level table → low ≤ level → level ≤ last_step → x ≡ new level → Filled before new low (level + 1) (set table level x)
  filled_more {level} {table} {x} so_far from within is = record { long = length-set table level x ∙ so_far.long; at = filled }
    where
      stored : level < length table
      stored = omega (arith, so_far.long)

      filled : (v : ℕ) → v ≤ last_step → get_or (set table level x) v (pos 0) ≡ cond (leb low v && ltb v (level + 1)) (new v) (get_or before v (pos 0))
      filled v within =
          elim (cases_eq v level) [
            | inl here ↦ rw (here, get_or-set_same table level x (pos 0) stored, is) (grind (arith, nat_tests))
            | inr other ↦ let was = so_far.at v within in rw (get_or-set_other table level v x (pos 0) other) (grind (arith, nat_tests))
          ]
