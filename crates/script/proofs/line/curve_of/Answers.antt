use Rattle.std.proofs.Common.{◌≡◌, ℕ, List, [], ◌∷◌, get_or, None, codes, refl, rules}
use Rattle.script.specs.Answers.{texts}
use Rattle.script.specs.Reading.{curve_of}
use Rattle.script.proofs.Texts.{Words, no_word, differ}
use Rattle.script.proofs.line.curve_of.Goals as goal

abbrev IsNot : Words → List ℕ → Type 0
IsNot ws w = (get_or ws 0 no_word).now ≡ w → ⊥

no_kind : (ws : Words) → IsNot ws (codes "square") → IsNot ws (codes "band") → IsNot ws (codes "knees") → curve_of (texts ws) ≡ None
no_kind [] square band knees = refl
no_kind (w ∷ ws) square band knees = rw (differ w.now (codes "square") square, differ w.now (codes "band") band, differ w.now (codes "knees") knees) refl

pub returns-in_default-kind : goal.returns-in_default-kind
returns-in_default-kind c = no_kind c.args.words.now (search rules) (search rules) (search rules)
