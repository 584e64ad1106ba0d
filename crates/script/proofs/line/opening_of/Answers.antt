use Rattle.std.proofs.Common.{◌≡◌, [], ◌∷◌, length, get_or, codes, refl, sym, ◌∙◌, arith, rules}
use Rattle.script.specs.Answers.{texts}
use Rattle.script.specs.Numbers.{unsigned_read}
use Rattle.script.specs.Reading.{opening_of}
use Rattle.script.specs.Words.{unsigned}
use Rattle.script.proofs.Texts.{Words, no_word, at_word, differ}
use Rattle.script.proofs.line.opening_of.Goals as goal

opens : (ws : Words) → length ws ≡ 2 → (get_or ws 0 no_word).now ≡ codes "open" → opening_of (texts ws) ≡ unsigned 64 (get_or ws 1 no_word).now
opens [] two is = absurd (omega (arith, two))
opens (verb ∷ []) two is = absurd (omega (arith, two))
opens (verb ∷ slots ∷ []) two is = rw is refl
opens (verb ∷ slots ∷ w ∷ ws) two is = absurd (omega (arith, two))

pub returns-in-open : goal.returns-in-open
returns-in-open c =
    let ws = c.args.words.now in
    let read = unsigned_read 64 (get_or ws 1 no_word).now c.parse.result c.parse.ensures.value.0 in
    c.ok.ensures.value ∙ read ∙ sym (opens ws (search rules) (search rules))

pub returns-in_default-2 : goal.returns-in_default-2
returns-in_default-2 c =
    let first = (get_or c.args.words.now 0 no_word).now in
    let other : first ≡ codes "open" → ⊥ = search rules in
    let differs = differ first (codes "open") other in
    let verb = at_word c.args.words.now 0 in
    search rules
