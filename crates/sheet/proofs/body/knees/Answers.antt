use Rattle.std.proofs.Common.{◌≡◌, drop, refl, ap, ◌∙◌, w32, w64, SFits, to_z, arith, rules}
use Rattle.std.proofs.lemmas.Int.{to_z-of_z}
use Rattle.std.proofs.lemmas.List.{drop-drop}
use Rattle.curve.specs.Limits.{knee_limit}
use Rattle.sheet.proofs.NextFields.{field_number, knee_read, levels_read, steps_read}
use Rattle.sheet.proofs.body.knees.Goals as goal

pub loop-k-preserved : goal.loop-k-preserved
loop-k-preserved c =
    let left = c.loop-k.fields.left.now in
    let after_level = c.next-in-loop-k.ensures.left in
    let fits : SFits w32 c.from_be_bytes-in-loop-k.result = search rules in
    let level = c.from_be_bytes.ensures ∙ field_number 1 0 _ left left refl (omega (arith, c.loop-k.invariant.within)) c.next-in-loop-k.ensures.field in
    let step = to_z-of_z w32 _ fits ∙ c.from_be_bytes-in-loop-k.ensures ∙ ap (to_z w32) (field_number 3 2 _ _ left after_level (omega (arith, c.loop-k.invariant.within)) c.next-in-loop-k-2.ensures.field) in
    let behind = c.next-in-loop-k-2.ensures.left ∙ ap (drop 4) after_level in
    knee_read _ left _ c.loop-k.levels c.loop-k.steps c.loop-k.k _ _ (omega arith) level step behind c.loop-k.invariant

pub returns : goal.returns
returns c =
    let left = c.args.fields.now.left.now in
    let after_ground = c.next.ensures.left in
    let after_first = c.next-2.ensures.left ∙ ap (drop 4) after_ground ∙ drop-drop 4 8 left in
    let after_count = c.next-3.ensures.left ∙ ap (drop 1) after_first ∙ drop-drop 1 12 left in
    let fits_ground : SFits w64 c.from_be_bytes-ground.result = search rules in
    let fits_first : SFits w32 c.from_be_bytes-first.result = search rules in
    let ground = to_z-of_z w64 _ fits_ground ∙ c.from_be_bytes-ground.ensures ∙ ap (to_z w64) (field_number 7 0 _ left left refl (omega arith) c.next.ensures.field) in
    let first = to_z-of_z w32 _ fits_first ∙ c.from_be_bytes-first.ensures ∙ ap (to_z w32) (field_number 3 8 _ _ left after_ground (omega arith) c.next-2.ensures.field) in
    let count = c.from_be_bytes-count.ensures ∙ field_number 0 12 _ _ left after_first (omega arith) c.next-3.ensures.field in
    let all : c.loop-k.k ≡ knee_limit = omega arith in
    let read = rw all at c.loop-k.invariant in
    let levels = levels_read _ _ _ left _ 13 after_count read in
    let steps = steps_read _ _ _ left _ 13 after_count read in
    cc
