-- A turn more of the loop over lines.
use Rattle.std.proofs.Common.{◌≡◌, ℕ, ◌+◌, ◌<◌, Bool, false, eqb, List, [], ◌∷◌, ◌++◌, length, get_or, drop, Some, sym, refl, ap, ◌∙◌, append_assoc, arith}
use Rattle.script.specs.Answers.{texts}
use Rattle.script.specs.Entries.{PlainCall}
use Rattle.script.specs.Reading.{open_memory, make, line_of, Reading, journal, not_a_call, before, lines_from}
use Rattle.script.specs.Words.{cut}
use Rattle.script.proofs.Texts.{Words, no_word, next_word}

pub nonempty : (l : List ℕ) (b : Bool) → b ≡ false → b ≡ eqb (length l) 0 → 0 < length l
nonempty [] b not is = absurd (let z : ◌≡◌ {A = ℕ} 0 1 = cc in omega arith)
nonempty (x ∷ xs) b not is = omega arith

-- calls before a reading
abbrev pub after : List PlainCall → Reading → Reading
after cs (journal slots more) = journal slots (cs ++ more)
after cs (not_a_call k) = not_a_call k

after_before : (cs : List PlainCall) (c : PlainCall) (r : Reading) → after cs (before c r) ≡ after (cs ++ (c ∷ [])) r
after_before cs c (journal slots more) = rw (append_assoc cs (c ∷ []) more) refl
after_before cs c (not_a_call k) = refl

module _ (first : Bool) (slots k : ℕ) (lines : List (List ℕ)) where
  opens : (l : List ℕ) (n : ℕ) → 0 < length l → line_of first (cut 32 l) ≡ Some (open_memory n) → lines_from first slots k (l ∷ lines) ≡ lines_from false n (k + 1) lines
  opens [] n some is = absurd (omega (arith, some))
  opens (b ∷ bs) n some is = rw (is, lines_from) refl

  calls : (l : List ℕ) (c : PlainCall) → 0 < length l → line_of first (cut 32 l) ≡ Some (make c) → lines_from first slots k (l ∷ lines) ≡ before c (lines_from false slots (k + 1) lines)
  calls [] c some is = absurd (omega (arith, some))
  calls (b ∷ bs) c some is = rw (is, lines_from) refl

module _ (ls : Words) (i : ℕ) (first : Bool) (slots : ℕ) (cs : List PlainCall) where
  here : i < length ls → lines_from first slots (i + 1) (texts (drop i ls)) ≡ lines_from first slots (i + 1) ((get_or ls i no_word).now ∷ texts (drop (i + 1) ls))
  here less = ap (lines_from first slots (i + 1)) (next_word ls i less)

  pub line_opens : (n : ℕ) → i < length ls → 0 < length (get_or ls i no_word).now → line_of first (cut 32 (get_or ls i no_word).now) ≡ Some (open_memory n) → after cs (lines_from first slots (i + 1) (texts (drop i ls))) ≡ after cs (lines_from false n (i + 1 + 1) (texts (drop (i + 1) ls)))
  line_opens n less some is = ap (after cs) (here less ∙ opens first slots (i + 1) (texts (drop (i + 1) ls)) (get_or ls i no_word).now n some is)

  pub line_calls : (c : PlainCall) (cs' : List PlainCall) → i < length ls → 0 < length (get_or ls i no_word).now → line_of first (cut 32 (get_or ls i no_word).now) ≡ Some (make c) → cs' ≡ cs ++ (c ∷ []) → after cs (lines_from first slots (i + 1) (texts (drop i ls))) ≡ after cs' (lines_from false slots (i + 1 + 1) (texts (drop (i + 1) ls)))
  line_calls c cs' less some is grown =
      ap (after cs) (here less ∙ calls first slots (i + 1) (texts (drop (i + 1) ls)) (get_or ls i no_word).now c some is)
      ∙ after_before cs c (lines_from false slots (i + 1 + 1) (texts (drop (i + 1) ls)))
      ∙ ap (λ (xs : List PlainCall). after xs (lines_from false slots (i + 1 + 1) (texts (drop (i + 1) ls)))) (sym grown)
