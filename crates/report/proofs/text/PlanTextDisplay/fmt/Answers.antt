use Rattle.std.proofs.Common.{true, ◌++◌, length, take, None, codes, decimal, refl, sym, ap, ◌∙◌, w64, rules}
use Rattle.std.proofs.lemmas.List.{length-map}
use Rattle.std.proofs.lemmas.Int.{to_z-of_z}
use Rattle.std.specs.Fmt.{signed_decimal, HasWritten}
use Rattle.std.proofs.Output.{has_written_append, has_written_of_eq}
use Rattle.optimum.proofs.Planned.{plan_within}
use Rattle.planner.proofs.Convexity.{all_convex, all_open}
use Rattle.slots.specs.SlotTerms.{slot_terms, day_terms}
use Rattle.report.specs.Reports.{slot_lines}
use Rattle.report.proofs.PlanTexts.{within_top, text_made}
use Rattle.report.proofs.text.PlanTextDisplay.fmt.Goals as goal

pub put_lines-requires : goal.put_lines-requires
put_lines-requires g c =
    let day = c.args.self.now.day.now in
    let slots = take day.count day.slots.now in
    let within = plan_within (day_terms g.C.Curve.ground g.C.Curve.steps slots) (all_convex g.C.Curve.ground g.C.Curve.steps g.met.C.Curve.rising slots day.proper) (all_open g.C.Curve.ground g.C.Curve.steps slots day.proper) in
    let checked = (rw c.unwrap-plan.ensures at c.checked_plan.ensures).1 in
    rw checked.0 (within_top g.C.Curve.ground g.C.Curve.steps slots _ day.proper within)

pub returns-clause-writes : goal.returns-clause-writes
returns-clause-writes g c = λ plain ok.
    let day = c.args.self.now.day.now in
    let slots = take day.count day.slots.now in
    let ts = day_terms g.C.Curve.ground g.C.Curve.steps slots in
    let checked = (rw c.unwrap-plan.ensures at c.checked_plan.ensures).1 in
    let many = ap length c.slots.ensures ∙ sym (length-map slots (slot_terms g.C.Curve.ground g.C.Curve.steps)) in
    let fits = to_z-of_z w64 c.cost-cost.result (search rules) in
    let head : HasWritten g.W.Write.write_str_gives c.args.f.now (codes "slots " ++ (decimal (length c.slots.result.now) ++ (codes " cost " ++ (signed_decimal c.cost-cost.result ++ codes "\n")))) c.writeln.new.self = simp fits at c.in_ok-writeln.ensures.writes plain (refl {a = true}) in
    let lines : HasWritten g.W.Write.write_str_gives c.writeln.new.self (slot_lines 0 ts None c.unwrap-plan.result.levels.now) c.put_lines.new.f = rw c.slots-2.ensures at c.put_lines.ensures head.plain ok in
    let whole = text_made ts _ c.cost-cost.result _ _ _ many (c.cost-cost.ensures ∙ checked.1) checked.0 refl refl in
    has_written_of_eq _ _ _ _ _ whole (has_written_append _ _ _ _ _ _ head lines)
