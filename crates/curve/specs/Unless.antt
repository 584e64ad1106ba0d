-- What holds of a curve that can be made, and of 0, holds of a written one.
use Rattle.std.specs.Prelude.{◌≡◌, ℕ, ℤ, pos, ◌≤ℤ◌, Some, None, Option, refl}
use Rattle.std.proofs.Common.{arith}
use Rattle.std.specs.Int.Signed.{≤ℤ_refl}
use Rattle.std.proofs.lemmas.Int.{ints}
use Rattle.curve.specs.Limits.{Within}
use Rattle.curve.specs.WrittenCurves.{unless}
use Rattle.curve.specs.declared.fault.CurveFault.{CurveFault}

pub unless_le : (fault : Option CurveFault) (a b : ℤ) → (fault ≡ None → a ≤ℤ b) → unless fault a ≤ℤ unless fault b
unless_le None a b le = le refl
unless_le (Some f) a b le = ≤ℤ_refl (pos 0)

pub unless_within : (limit : ℕ) (fault : Option CurveFault) (z : ℤ) → (fault ≡ None → Within limit z) → Within limit (unless fault z)
unless_within limit None z within = within refl
unless_within limit (Some f) z within = (omega (arith, ints), omega (arith, ints))
