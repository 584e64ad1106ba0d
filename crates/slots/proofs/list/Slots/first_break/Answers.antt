use Rattle.std.proofs.Common.{◌≡◌, ◌+◌, ◌⊎◌, length, get_or, pos, to_z, of_z, w64, Some, inl, inr, refl, sym, ap, ◌∙◌, arith, rules}
use Rattle.std.proofs.lemmas.Fn.{says_at}
use Rattle.std.proofs.lemmas.Int.{ints}
use Rattle.std.proofs.lemmas.Option.{unwrap_or-slice_get}
use Rattle.std.proofs.lemmas.Bool.Decides.{nat_tests}
use Rattle.std.specs.Iterator.Adapters.{enumerate_source, enumerate_count, zip_first, zip_second}
use Rattle.std.specs.Slice.Iter.{iter_rest}
use Rattle.optimum.specs.Leans.{next_lean}
use Rattle.curve.specs.Tests.{and_left, and_right}
use Rattle.slots.specs.Slots.{proper, all_proper}
use Rattle.slots.proofs.Outside.{outside_head, outside_tail}
use Rattle.slots.specs.Stands.{Triable}
use Rattle.slots.proofs.Stands.{left_more, next_lean_left, break_more, break_here, break_end, all_parted}
use Rattle.slots.proofs.list.Slots.first_break.Goals as goal

pub invariant_of-stand : goal.invariant_of-stand
invariant_of-stand g c =
    let turn = c.in-Some.ensures.steps in
    let pairs = zip_first (enumerate_source c.next.new.self) in
    let within = outside_head g.C.Curve.ground g.C.Curve.steps c.in-Some.slot.now (iter_rest (zip_first pairs)) c.in-Some.level.now (iter_rest (zip_second pairs)) turn.0.0.0 turn.0.0.1 c.loop-i.invariant.4 in
    let fine = and_left (proper c.in-Some.slot.now) (all_proper (iter_rest (zip_first pairs))) (rw turn.0.0.0 at c.loop-i.invariant.5) in
    record { level_held = grind (arith, nat_tests); bounds_held = grind (arith, nat_tests) }

pub keeps-requires : goal.keeps-requires
keeps-requires g c =
    let turn = c.in-Some.ensures.steps in
    let left = enumerate_source c.next.new.self in
    let leans = iter_rest (zip_second left) in
    let own : to_z w64 (of_z w64 c.in-Some.lean.now) ≡ c.in-Some.lean.now = omega (arith, ints) in
    let got : c.unwrap_or.result ≡ get_or c.args.leans.now (c.in-Some.i + 1) (pos 0) = search (rules, unwrap_or-slice_get) in
    let after = next_lean_left c.in-Some.i c.args.leans.now c.in-Some.lean.now leans (cc) in
    let next : to_z w64 (of_z w64 c.unwrap_or.result) ≡ next_lean leans = omega (arith, ints) in
    let may = all_parted g.C.Curve.ground g.C.Curve.steps (Triable g.C.Curve.ground g.C.Curve.steps g.F.Fn c.args.keeps) c.loop-i.before c.in-Some.slot.now (iter_rest (zip_first (zip_first left))) c.in-Some.level.now (iter_rest (zip_second (zip_first left))) c.in-Some.lean.now leans turn.0.0.0 turn.0.0.1 turn.0.1 c.loop-i.invariant.6 in
    may.0 _ (rw (own, next) refl)

pub returns-then-not-keeps : goal.returns-then-not-keeps
returns-then-not-keeps g c rule tries =
    let turn = c.in-Some.ensures.steps in
    let left = enumerate_source c.next.new.self in
    let leans = iter_rest (zip_second left) in
    let own : to_z w64 (of_z w64 c.in-Some.lean.now) ≡ c.in-Some.lean.now = omega (arith, ints) in
    let got : c.unwrap_or.result ≡ get_or c.args.leans.now (c.in-Some.i + 1) (pos 0) = search (rules, unwrap_or-slice_get) in
    let after = next_lean_left c.in-Some.i c.args.leans.now c.in-Some.lean.now leans (cc) in
    let next : to_z w64 (of_z w64 c.unwrap_or.result) ≡ next_lean leans = omega (arith, ints) in
    let answer = rw (own, next) at (tries _ _ (says_at g.F.Fn c.keeps.ensures c.if-not-keeps.true)) in
    let here = break_here g.C.Curve.ground g.C.Curve.steps rule (enumerate_count c.loop-i.i-iterator) c.loop-i.before c.in-Some.slot.now (iter_rest (zip_first (zip_first left))) c.in-Some.level.now (iter_rest (zip_second (zip_first left))) c.in-Some.lean.now leans turn.0.0.0 turn.0.0.1 turn.0.1 answer in
    sym (c.loop-i.invariant.2 rule tries ∙ (here ∙ ap Some (sym turn.1)))

pub loop-i-preserved : goal.loop-i-preserved
loop-i-preserved g c =
    let turn = c.in-Some.ensures.steps in
    let left = enumerate_source c.next.new.self in
    let slots = iter_rest (zip_first (zip_first left)) in
    let levels = iter_rest (zip_second (zip_first left)) in
    let leans = iter_rest (zip_second left) in
    let n = enumerate_count c.loop-i.i-iterator in
    let own : to_z w64 (of_z w64 c.in-Some.lean.now) ≡ c.in-Some.lean.now = omega (arith, ints) in
    let got : c.unwrap_or.result ≡ get_or c.args.leans.now (c.in-Some.i + 1) (pos 0) = search (rules, unwrap_or-slice_get) in
    let after = next_lean_left c.in-Some.i c.args.leans.now c.in-Some.lean.now leans (cc) in
    let next : to_z w64 (of_z w64 c.unwrap_or.result) ≡ next_lean leans = omega (arith, ints) in (
      search rules,
      search rules,
      λ rule tries.
          let answer = rw (own, next) at (tries _ _ (says_at g.F.Fn c.keeps.ensures c.if-not-keeps.false)) in
          let more = break_more g.C.Curve.ground g.C.Curve.steps rule n c.loop-i.before c.in-Some.slot.now slots c.in-Some.level.now levels c.in-Some.lean.now leans turn.0.0.0 turn.0.0.1 turn.0.1 answer in
          c.loop-i.invariant.2 rule tries ∙ rw turn.2 more,
      rw turn.2 (left_more n c.args.leans.now c.in-Some.lean.now leans (cc)),
      outside_tail g.C.Curve.ground g.C.Curve.steps c.in-Some.slot.now slots c.in-Some.level.now levels turn.0.0.0 turn.0.0.1 c.loop-i.invariant.4,
      and_right (proper c.in-Some.slot.now) (all_proper slots) (rw turn.0.0.0 at c.loop-i.invariant.5),
      (all_parted g.C.Curve.ground g.C.Curve.steps (Triable g.C.Curve.ground g.C.Curve.steps g.F.Fn c.args.keeps) c.loop-i.before c.in-Some.slot.now slots c.in-Some.level.now levels c.in-Some.lean.now leans turn.0.0.0 turn.0.0.1 turn.0.1 c.loop-i.invariant.6).1,
    )

pub returns : goal.returns
returns g c rule tries = let turn = c.in-None.ensures.steps in let pairs = enumerate_source c.loop-i.i-iterator in
    let over : ((length (iter_rest (zip_first (zip_first pairs))) ≡ 0) ⊎ (length (iter_rest (zip_second (zip_first pairs))) ≡ 0)) ⊎ (length (iter_rest (zip_second pairs)) ≡ 0) =
    elim turn.0 [ inl p ↦ inl (elim p.1 [ inl q ↦ inl q.1.0 | inr q ↦ inr q.1.0 ]) | inr q ↦ inr q.1.0 ] in
    sym (c.loop-i.invariant.2 rule tries ∙ break_end g.C.Curve.ground g.C.Curve.steps rule _ _ _ _ _ over)
