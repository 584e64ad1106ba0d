-- The number of each reason why a curve cannot be made.
use Rattle.std.specs.Prelude.{ℕ}
use Rattle.curve.specs.declared.fault.CurveFault.{CurveFault}
use Rattle.curve.specs.declared.fault.CurveFault.TheVariants.{Weight, Target, Edges, Rate, KneeCount, KneeLevels, KneeSteps, Ground, Sum}

abbrev pub fault_number : CurveFault → ℕ
fault_number Weight = 1
fault_number Target = 2
fault_number Edges = 3
fault_number Rate = 4
fault_number KneeCount = 5
fault_number KneeLevels = 6
fault_number KneeSteps = 7
fault_number Ground = 8
fault_number Sum = 9
