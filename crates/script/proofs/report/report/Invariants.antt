use Rattle.std.proofs.Common.{◌≡◌, ◌++◌, drop, string_bytes}
use Rattle.std.specs.Slice.Iter.{iter_rest}
use Rattle.script.specs.Telling.{report_text}
use Rattle.script.proofs.report.report.Given as goal

abbrev pub invariant-loop-item : goal.invariant-loop-item
invariant-loop-item l = string_bytes l.text ++ report_text (drop l.item-index l.entries) (iter_rest l.told) ≡ report_text l.entries l.moments
