use Rattle.std.proofs.Common.{◌≡◌, true, ℕ, ◌+◌, ◌<◌, List, [], ◌∷◌, ◌++◌, length, get_or, take, sym, refl, ap, ◌∙◌}
use Rattle.std.proofs.lemmas.List.{flat_map_more, take_more, take_all}
use Rattle.std.proofs.Output.{has_written_append, has_written_of_eq}
use Rattle.replay.specs.Telling.{spaced}
use Rattle.replay.proofs.answer.write_spaced.Goals as goal

spaced_more : {X : Type 0} (write : X → List ℕ) (xs : List X) (i : ℕ) (x : X) → i < length xs → x ≡ get_or xs i x → spaced write (take i xs) ++ (32 ∷ write x) ≡ spaced write (take (i + 1) xs)
spaced_more {X} write xs i x less is =
    flat_map_more (λ y. 32 ∷ write y) [] (take i xs) x ∙ ap (spaced write) (sym (take_more xs i x less ∙ ap (λ (y : X). take i xs ++ y ∷ []) (sym is)))

pub loop-number-preserved : goal.loop-number-preserved
loop-number-preserved g c = λ write shows plain.
    let so_far = c.loop-number.invariant write shows plain in
    let wrote = rw (shows c.number-item.result) at c.in_ok-write.ensures.writes in
    has_written_of_eq _ _ _ _ _ (spaced_more write c.args.numbers.now c.loop-number.number-index c.number-item.result c.loop-number-test.true c.number-item.is) (has_written_append _ _ _ _ _ _ so_far (wrote so_far.plain (refl {a = true})))

pub returns : goal.returns
returns g c = λ write shows plain ok.
    has_written_of_eq _ _ _ _ _ (ap (spaced write) (take_all c.loop-number.number-index c.args.numbers.now c.loop-number-test.false)) (c.loop-number.invariant write shows plain)
