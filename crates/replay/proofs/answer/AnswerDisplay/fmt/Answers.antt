use Rattle.std.proofs.Common.{◌≡◌, true, List, ℕ, ◌++◌, codes, decimal, vec_items, refl, rules, append_assoc}
use Rattle.std.specs.Fmt.{signed_decimal, HasWritten}
use Rattle.std.proofs.Output.{has_written_append, has_written_of_eq}
use Rattle.replay.specs.Telling.{spaced}
use Rattle.replay.proofs.answer.AnswerDisplay.fmt.Goals as goal

-- a plan's line, put together piece by piece
line : (a b c levels e leans : List ℕ) → (((a ++ (b ++ c)) ++ levels) ++ e) ++ leans ≡ a ++ (b ++ (c ++ (levels ++ (e ++ leans))))
line a b c levels e leans = simp append_assoc

pub returns-in_ok-write-in-Planned-2-clause-writes : goal.returns-in_ok-write-in-Planned-2-clause-writes
returns-in_ok-write-in-Planned-2-clause-writes g c = λ plain ok.
    let begun : HasWritten g.W.Write.write_str_gives c.args.f.now (codes "cost " ++ (signed_decimal c.in-Planned.cost ++ codes " levels")) c.write-in-Planned.new.self = search rules in
    let levelled = c.in_ok-write_spaced-in-Planned.ensures decimal (λ x. refl) begun.plain (refl {a = true}) in
    let parted = c.in_ok-write-in-Planned-2.ensures.writes levelled.plain (refl {a = true}) in
    let ended = c.write_spaced-in-Planned.ensures signed_decimal (λ x. refl) parted.plain ok in
    let whole = line (codes "cost ") (signed_decimal c.in-Planned.cost) (codes " levels") (spaced decimal (vec_items c.in-Planned.levels)) (codes " leans") (spaced signed_decimal (vec_items c.in-Planned.leans)) in
    let joined = has_written_append _ _ _ _ _ _ (has_written_append _ _ _ _ _ _ (has_written_append _ _ _ _ _ _ begun levelled) parted) ended in
    rw c.in-Planned.is (has_written_of_eq _ _ _ _ _ whole (rw (c.deref.ensures.value, c.deref-in-Planned.ensures.value) at joined))
