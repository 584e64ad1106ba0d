use Rattle.std.proofs.Common.{◌≡◌, None, refl, arith, w64, SFits, to_z}
use Rattle.std.proofs.lemmas.Slice.Zip.{either_empty_from_Zip}
use Rattle.std.proofs.lemmas.Int.{ints, to_z-of_z}
use Rattle.std.specs.Iterator.Adapters.{enumerate_source}
use Rattle.planner.proofs.ForwardPass.{lean_from, led_all, led_more}
use Rattle.planner.proofs.leans.lean_forward.Goals as goal
use Rattle.planner.proofs.leans.lean_forward.Goals.{in-None-before, in-Some-before}

pub forward_lean-lean-requires-clause-small : goal.forward_lean-lean-requires-clause-small
forward_lean-lean-requires-clause-small g c =
    let led = c.loop-i.invariant in
    let left = led.left in
    let few = c.args.slots.now.few in
    let sound = rw c.in-Some-before.is at led.sound in
    record { least = omega (arith, ints, sound.2.least); most = omega (arith, ints, sound.2.most) }

pub loop-i-preserved : goal.loop-i-preserved
loop-i-preserved g c =
    let turn = c.in-Some.ensures.steps in
    let led = c.loop-i.invariant in
    let few = c.args.slots.now.few in
    let left = led.left in
    let lean : to_z w64 c.match-before.lean-bits ≡ lean_from g.C.Curve.ground g.C.Curve.steps c.loop-i.before c.in-Some.slot.now c.in-Some.level.now =
    elim c.match-before.branch [
      | in-None-before w ↦ rw w.in-None-before.is w.lean-is
      | in-Some-before w ↦
          let sound = rw w.in-Some-before.is at led.sound in
          let fits : SFits w64 w.in-Some-before.lean = omega (arith, ints, sound.2.least, sound.2.most) in
          let made = rw (to_z-of_z w64 w.in-Some-before.lean fits) at w.forward_lean-lean.ensures in
          rw w.in-Some-before.is (omega (arith, ints))
    ]
    in
    rw (turn.2, turn.1) (led_more _ _ g.met.C.Curve.bounded led c.in-Some.slot _ c.in-Some.level.now _ _ turn.0.0 turn.0.1 (omega arith) lean)

pub returns : goal.returns
returns g c =
    let left = enumerate_source c.loop-i.i-iterator in
    led_all _ _ c.loop-i.invariant (omega arith) (either_empty_from_Zip left (enumerate_source c.next.new.self) None refl c.in-None.ensures.steps.0)
