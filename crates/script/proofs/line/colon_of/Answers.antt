use Rattle.std.proofs.Common.{rules, tests}
use Rattle.std.proofs.lemmas.Iterator.{YieldsList-from_slice}
use Rattle.std.proofs.lemmas.Iterator.Search.{position_from_yields_List}
use Rattle.script.proofs.Sides.{is_colon, sides_at}
use Rattle.script.proofs.line.colon_of.Goals as goal

pub returns : goal.returns
returns c =
    sides_at c.args.words.now c.position.result
    (position_from_yields_List is_colon _ _ c.position.result c.position.ensures.ran (YieldsList-from_slice c.args.words.now (cc)) (λ x b q k. search (rules, tests)))
