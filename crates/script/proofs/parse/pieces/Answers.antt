use Rattle.std.proofs.lemmas.Iterator.Consumers.{map_from_collect}
use Rattle.std.proofs.lemmas.Iterator.Splits.{YieldsList-from_str_split}
use Rattle.script.proofs.Cuts.{splits}
use Rattle.script.proofs.parse.pieces.Goals as goal

pub returns : goal.returns
returns c =
    rw (← splits c.args.at c.args.text.now)
    (map_from_collect _ c.collect.ensures.ran (YieldsList-from_str_split c.args.at c.args.text.now c.requires c.split.ensures.text c.split.ensures.has_more c.split.ensures.pattern))
