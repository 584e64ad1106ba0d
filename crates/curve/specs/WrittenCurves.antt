-- What a written curve means: what the curve of its numbers means, and 0 throughout where no curve can be made from them.
use Rattle.std.specs.Prelude.{ℕ, ℤ, pos, Some, None, Option}
use Rattle.curve.specs.Squares.{square_fault, square_ground, square_step}
use Rattle.curve.specs.Bands.{band_fault, band_ground, band_step}
use Rattle.curve.specs.KneeSteps.{knees_fault, knees_step}
use Rattle.curve.specs.declared.fault.CurveFault.{CurveFault}
use Rattle.curve.specs.declared.written.Written.{Written}
use Rattle.curve.specs.declared.written.Written.TheVariants.{Square, Band, Knees}

-- why no curve can be made from the numbers
abbrev pub written_fault : Written → Option CurveFault
written_fault (Square w a) = square_fault w a
written_fault (Band p q c d) = band_fault p q c d
written_fault (Knees base first count levels steps) = knees_fault base first count levels steps

-- a number of a curve that can be made, and else 0
abbrev pub unless : Option CurveFault → ℤ → ℤ
unless None z = z
unless (Some fault) z = pos 0

-- the cost at level 0
abbrev pub written_ground : Written → ℤ
written_ground (Square w a) = unless (square_fault w a) (square_ground w a)
written_ground (Band p q c d) = unless (band_fault p q c d) (band_ground p c)
written_ground (Knees base first count levels steps) = unless (knees_fault base first count levels steps) base

-- what one level more costs
abbrev pub written_steps : Written → ℕ → ℤ
written_steps (Square w a) v = unless (square_fault w a) (square_step w a v)
written_steps (Band p q c d) v = unless (band_fault p q c d) (band_step p q c d v)
written_steps (Knees base first count levels steps) v = unless (knees_fault base first count levels steps) (knees_step first count levels steps v)
