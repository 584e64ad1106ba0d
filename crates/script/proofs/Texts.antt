-- Words behind references, and what is said of them.
use Rattle.std.proofs.Common.{◌≡◌, ℕ, ◌+◌, ◌<◌, false, List, [], ◌∷◌, length, get_or, drop, Some, None, Option, refl, ap, inl, inr, Bor}
use lib.ListN.{get_or-map}
use Rattle.std.proofs.lemmas.Bool.{cases_Bool}
use Rattle.std.proofs.lemmas.List.{length-map, drop_more}
use Rattle.std.proofs.lemmas.Slice.Eq.{bytes_eq-Decides}
use Rattle.std.specs.Str.{bytes_eq}
use Rattle.script.specs.Answers.{texts}
use Rattle.script.specs.Words.{word, and_then}

abbrev pub Words : Type 0
Words = List (Bor (List ℕ))

abbrev pub no_word : Bor (List ℕ)
no_word = record { ref_ptr = (0, 0); now = [] }

pub at_word : (ws : Words) (i : ℕ) → word (texts ws) i ≡ (get_or ws i no_word).now
at_word ws i = get_or-map (λ (x : Bor (List ℕ)). x.now) ws i no_word

pub many : (ws : Words) → length (texts ws) ≡ length ws
many ws = length-map ws (λ (x : Bor (List ℕ)). x.now)

pub none_then : {X Y : Type 0} (o : Option X) (f : X → Option Y) → o ≡ None → and_then o f ≡ None
none_then o f is = rw is refl

-- where nothing can follow, nothing is said
pub quiet : {X Y : Type 0} (o : Option X) (f : X → Option Y) → ((x : X) → f x ≡ None) → and_then o f ≡ None
quiet None f none = refl
quiet (Some x) f none = none x

-- the word at a place, and those after it
pub next_word : (ws : Words) (i : ℕ) → i < length ws → texts (drop i ws) ≡ (get_or ws i no_word).now ∷ texts (drop (i + 1) ws)
next_word ws i less = ap texts (drop_more ws i no_word less)

-- two texts that differ
pub differ : (xs ys : List ℕ) → (xs ≡ ys → ⊥) → bytes_eq xs ys ≡ false
differ xs ys other =
    elim (cases_Bool (bytes_eq xs ys)) [ inl same ↦ absurd (other ((bytes_eq-Decides xs ys).0 same)) | inr not ↦ not ]
