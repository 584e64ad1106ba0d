use Rattle.std.proofs.Common.{arith}
use Rattle.curve.specs.BandsLemmas.{band_costs}
use Rattle.curve.proofs.band.Band.new.Goals as goal

pub returns-clause-costs : goal.returns-clause-costs
returns-clause-costs c v = band_costs c.args.cold c.args.warm c.args.cold_rate c.args.warm_rate v (omega arith)
