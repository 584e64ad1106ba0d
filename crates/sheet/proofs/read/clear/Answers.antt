use Rattle.std.proofs.Common.{List, ◌∙◌, ap₂}
use Rattle.curve.specs.declared.written.Written.{Written}
use Rattle.day.specs.View.{room_of}
use Rattle.slots.specs.declared.slot.Slot.{Slot}
use Rattle.sheet.proofs.Clearing.{dropped, emptied}
use Rattle.sheet.proofs.read.clear.Goals as goal

pub loop-smaller : goal.loop-smaller
loop-smaller c = dropped c.loop.day c.drop.new.self c.drop.result c.drop.ensures.answer c.drop.ensures.day c.loop-test.ensures.value

pub returns : goal.returns
returns c =
    let memory = c.drop.ensures.memory ∙ c.loop.invariant.0 in
    let none = emptied c.loop.day c.drop.new.self c.drop.result c.drop.ensures.answer c.drop.ensures.day c.loop-test.ensures.value in
    record {
      day = ap₂ (λ (held slots : List (Slot Written)). record { room = room_of held; slots = slots }) memory none;
      memory = memory;
      lender = c.drop.ensures.lender ∙ c.loop.invariant.1;
    }
