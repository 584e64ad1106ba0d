use Rattle.std.proofs.Common.{refl, ◌∙◌}
use Rattle.worked.specs.Table.{table}
use Rattle.worked.proofs.Computed.{all_same, found}
use Rattle.worked.proofs.examples_hold.Goals as goal

pub returns : goal.returns
returns g = all_same table refl ∙ found
