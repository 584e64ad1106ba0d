-- The steps of a written curve never fall.
use Rattle.std.proofs.Common.{arith}
use Rattle.std.specs.Prelude.{ℕ, suc, ◌≤ℤ◌}
use Rattle.std.proofs.lemmas.Bool.Decides.{nat_tests}
use Rattle.curve.specs.Squares.{square_fault}
use Rattle.curve.specs.Bands.{band_fault}
use Rattle.curve.specs.KneeSteps.{knees_fault, knees_rules}
use Rattle.curve.specs.WrittenCurves.{written_steps}
use Rattle.curve.specs.declared.written.Written.{Written}
use Rattle.curve.specs.declared.written.Written.TheVariants.{Square, Band, Knees}
use Rattle.curve.specs.BandsLemmas.{band_rising}
use Rattle.curve.specs.SquaresLemmas.{square_rising}
use Rattle.curve.specs.KneeStepsLemmas.{knees_rising}
use Rattle.curve.specs.Tests.{all_pass}
use Rattle.curve.specs.Unless.{unless_le}

pub written_rising : (c : Written) (v : ℕ) → written_steps c v ≤ℤ written_steps c (suc v)
written_rising (Square w a) v = unless_le (square_fault w a) _ _ (λ ok. square_rising w a v)
written_rising (Band p q c d) v = unless_le (band_fault p q c d) _ _ (λ ok. band_rising p q c d v (grind (arith, nat_tests)))
written_rising (Knees g f n ls ss) v = unless_le (knees_fault g f n ls ss) _ _ (λ ok. knees_rising f n ls ss v (all_pass (knees_rules g f n ls ss) ok).1.1.0)
