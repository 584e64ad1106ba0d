use Rattle.std.proofs.Common.{arith, rules}
use Rattle.std.proofs.lemmas.Grind.{common_steps}
use Rattle.script.proofs.Digits.{no_bytes, fails}
use Rattle.script.proofs.bytes.bytes_of.Goals as goal

pub returns-then-is_empty : goal.returns-then-is_empty
returns-then-is_empty c = grind (arith, common_steps, no_bytes c.args.word.now)

pub returns-in_err-bytes-clause-value : goal.returns-in_err-bytes-clause-value
returns-in_err-bytes-clause-value c =
    fails _ c.from_residual.result c.in_err-bytes.field-0.0 c.args.word.now (search rules) c.from_residual.ensures.1 c.in_err-bytes.ensures.err
