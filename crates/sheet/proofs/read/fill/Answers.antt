use Rattle.std.proofs.Common.{◌≡◌, ℕ, List, ◌∷◌, [], ◌++◌, set, Option, Some, Ok, Result, is_ok, sym, refl, ap, ◌∙◌}
use Rattle.std.proofs.lemmas.List.{length-take-le}
use Rattle.curve.specs.declared.written.Written.{Written}
use Rattle.day.specs.Edits.{edited}
use Rattle.day.specs.PlainDay.{PlainDay}
use Rattle.day.specs.View.{plain, memory_of, wrote}
use Rattle.slots.specs.Refusals.{told}
use Rattle.slots.specs.declared.refusal.Refusal.{Refusal}
use Rattle.slots.specs.declared.slot.Slot.{Slot}
use Rattle.sheet.specs.Reading.{left_in, Gives}
use Rattle.sheet.specs.declared.fault.SheetFault.{SheetFault}
use Rattle.sheet.specs.declared.reader.Reader.{Reader}
use Rattle.sheet.proofs.Filling.{Filled, Entered, filled_as, entered}
use Rattle.sheet.proofs.read.fill.Goals as goal

-- the slot that the reader gives is let in
let_in :
    {sheet : List ℕ} {memory : List (Slot Written)} {d : PlainDay Written} {held : List (Slot Written)} {given : Result (Option (Slot Written)) SheetFault} (before after : Reader) (s : Slot Written) →
    Filled sheet memory d held (left_in before) → Gives before given after → given ≡ Ok (Some s) → Entered sheet memory d held s (left_in after)
let_in before after s filled gives is =
    let next = rw is at gives in
    entered _ _ _ _ s _ (filled_as _ _ filled refl refl next.0)

pub unwrap-requires-in-Some : goal.unwrap-requires-in-Some
unwrap-requires-in-Some c =
    let enters = let_in c.loop-slot.reader c.next.new.self c.in-Some.slot c.loop-slot.invariant.0 c.next.ensures c.in-Some.ensures in
    ap is_ok (c.add.ensures.answer ∙ ap (λ (refusal : Option Refusal). told refusal tt) enters.accepted)

pub loop-slot-preserved : goal.loop-slot-preserved
loop-slot-preserved c =
    let enters = let_in c.loop-slot.reader c.next.new.self c.in-Some.slot c.loop-slot.invariant.0 c.next.ensures c.in-Some.ensures in
    let day = c.loop-slot.day in
    let s = c.in-Some.slot in
    let count = length-take-le day.count day.slots.now day.stored in
    let made = c.add.ensures.day ∙ ap (λ (refusal : Option Refusal). edited (plain day) refusal ((plain day).slots ++ s ∷ [])) enters.accepted in
    let held = c.add.ensures.memory ∙ ap (λ (refusal : Option Refusal). wrote refusal (memory_of day) day.count s) enters.accepted ∙ ap (λ (n : ℕ). set (memory_of day) n s) (sym count) in
    (filled_as _ _ enters.filled (sym made) (sym held) refl, c.add.ensures.lender ∙ c.loop-slot.invariant.1)
