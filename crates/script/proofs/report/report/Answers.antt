use Rattle.std.proofs.Common.{string_bytes, ◌∙◌}
use Rattle.std.specs.Slice.Iter.{iter_rest}
use Rattle.script.proofs.Steps.{report_more, report_done}
use Rattle.script.proofs.report.report.Goals as goal

pub loop-item-preserved : goal.loop-item-preserved
loop-item-preserved c =
    let line = c.as_str.ensures.value ∙ c.in_ok-line.ensures.line in
    report_more c.args.entries.now c.loop-item.item-index c.item-item.result (iter_rest c.loop-item.told) (iter_rest c.next_line.new.told) (string_bytes c.loop-item.text) (string_bytes c.push_str.new.self) c.as_str.result.now c.loop-item-test.true c.item-item.is line c.in_ok-line.ensures.left c.in_ok-push_str.ensures.bytes
    ∙ c.loop-item.invariant

pub returns : goal.returns
returns c =
    report_done c.args.entries.now c.loop-item.item-index (iter_rest c.loop-item.told) _ _ c.loop-item-test.false c.loop-item.invariant
