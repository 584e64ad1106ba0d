use Rattle.std.proofs.Common.{◌≡◌, ℕ, List, [], ◌∷◌, get_or, None, codes, refl, rules}
use Rattle.script.specs.Answers.{texts}
use Rattle.script.specs.Reading.{call_of}
use Rattle.script.proofs.Texts.{Words, no_word, differ}
use Rattle.script.proofs.line.entry_of.Goals as goal

abbrev IsNot : Words → List ℕ → Type 0
IsNot ws w = (get_or ws 0 no_word).now ≡ w → ⊥

no_verb : (ws : Words) → IsNot ws (codes "add") → IsNot ws (codes "replace") → IsNot ws (codes "drop") → IsNot ws (codes "sheet") → IsNot ws (codes "price") → IsNot ws (codes "plan") → IsNot ws (codes "check") → call_of (texts ws) ≡ None
no_verb [] add replace drop sheet price plan check = refl
no_verb (w ∷ ws) add replace drop sheet price plan check =
    rw (differ w.now (codes "add") add, differ w.now (codes "replace") replace, differ w.now (codes "drop") drop, differ w.now (codes "sheet") sheet, differ w.now (codes "price") price, differ w.now (codes "plan") plan, differ w.now (codes "check") check) refl

pub returns-in_default-verb : goal.returns-in_default-verb
returns-in_default-verb c =
    no_verb c.args.words.now (search rules) (search rules) (search rules) (search rules) (search rules) (search rules) (search rules)
