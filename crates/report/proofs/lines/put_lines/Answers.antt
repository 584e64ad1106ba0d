use Rattle.std.proofs.Common.{true, refl, rules}
use Rattle.std.specs.Slice.Iter.{iter_rest}
use Rattle.report.proofs.PlanTexts.{lines_from}
use Rattle.report.proofs.Writing.{part_written}
use Rattle.report.proofs.lines.put_lines.Goals as goal

pub loop-i-preserved : goal.loop-i-preserved
loop-i-preserved g c =
    let next = c.in-Some.ensures in
    let parts = lines_from g.C.Curve.ground g.C.Curve.steps c.args.slots.now c.loop-i.i c.index-slots-i.result c.loop-i.before (iter_rest c.loop-i.following.left) c.in-Some.level (iter_rest c.next_level.new.self.left) c.loop-i-test.true c.index-slots-i.is next.level next.left in (
      λ plain.
          let so_far = c.loop-i.invariant.0 plain in
          let line = c.in_ok-put_line.ensures so_far.written.plain (refl {a = true}) in
          part_written _ _ _ _ _ _ _ _ parts so_far line,
      search rules,
    )
