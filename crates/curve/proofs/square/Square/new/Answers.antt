use Rattle.curve.specs.SquaresLemmas.{square_costs}
use Rattle.curve.proofs.square.Square.new.Goals as goal

pub returns-clause-costs : goal.returns-clause-costs
returns-clause-costs c = square_costs c.args.weight c.args.target
