-- Lower bounds that say where they are tight.
use Rattle.std.proofs.Common.{◌≡◌, ℤ, ◌+ℤ◌, ◌≤ℤ◌, arith}
use lib.Signed.{≤ℤ_refl}
use Rattle.std.proofs.lemmas.Int.{ints}

-- a is a lower bound of b, and it is tight only if Q holds
pub record LowerBound (Q : Type 0) (a b : ℤ) : Type 0 where
  pub bound : a ≤ℤ b
  pub tight : b ≤ℤ a → Q

-- a number is a tight lower bound of itself
pub bound_self : {Q : Type 0} (a : ℤ) → Q → LowerBound Q a a
bound_self a q = record { bound = ≤ℤ_refl a; tight = λ h. q }

-- lower bounds add up, and their sum is tight only if both are
pub bound_sum : {Q R : Type 0} {a b c d : ℤ} → LowerBound Q a b → LowerBound R c d → LowerBound (Q × R) (a +ℤ c) (b +ℤ d)
bound_sum f g =
    let p = f.bound in
    let q = g.bound in
    record { bound = omega (arith, ints); tight = λ h. (f.tight (omega (arith, ints)), g.tight (omega (arith, ints))) }

-- the same number z may be added on both sides, and less be said of where a bound is tight
pub bound_shift : {Q R : Type 0} {a b c d : ℤ} (z : ℤ) → c ≡ a +ℤ z → d ≡ b +ℤ z → (Q → R) → LowerBound Q a b → LowerBound R c d
bound_shift z e k weaker f =
    let p = f.bound in
    record { bound = omega (arith, ints); tight = λ h. weaker (f.tight (omega (arith, ints))) }
