-- A turn more of the loop over levels and steps.
use Rattle.std.proofs.Common.{◌≡◌, ℕ, suc, zero, ◌+◌, ◌*◌, ◌/◌, ◌%◌, ◌<◌, ◌≤◌, List, [], ◌∷◌, length, get_or, drop, set, ℤ, Some, None, refl, ap, ◌∙◌, arith}
use Rattle.std.proofs.lemmas.List.{get_or-take, get_or-drop, set_past}
use Rattle.std.specs.Simd.{first_chunks}
use Rattle.script.specs.Answers.{texts}
use Rattle.script.specs.Reading.{knots_of}
use Rattle.script.specs.Words.{unsigned, signed}
use Rattle.script.proofs.Texts.{Words, no_word, next_word, quiet}

pub knots_odd : (n : ℕ) (levels : List ℕ) (steps : List ℤ) (ws : List (List ℕ)) → length ws % 2 ≡ 1 → knots_of n levels steps ws ≡ None
knots_odd n levels steps [] odd = absurd (omega (arith, odd))
knots_odd n levels steps (w ∷ []) odd = refl
knots_odd n levels steps (w ∷ v ∷ ws) odd =
    quiet (unsigned 16 w) _ (λ level. quiet (signed 31 v) _ (λ step. knots_odd (n + 1) (set levels n level) (set steps n step) ws (omega (arith, odd))))

in_pair : (k : ℕ) (ws : Words) (i j : ℕ) (d : Words) → i < k → j < 2 → get_or (get_or (first_chunks 2 k ws) i d) j no_word ≡ get_or ws (2 * i + j) no_word
in_pair zero ws i j d less two = absurd (omega (arith, less))
in_pair (suc k) ws zero j d less two = let e : 2 * 0 + j ≡ j = omega arith in rw e (get_or-take 2 ws j no_word two)
in_pair (suc k) ws (suc i) j d less two =
    in_pair k (drop 2 ws) i j d (omega (arith, less)) two ∙ get_or-drop 2 ws (2 * i + j) no_word ∙ ap (λ (n : ℕ). get_or ws n no_word) (omega arith)

module _ (ws : Words) (pairs : List Words) (d : Words) (i : ℕ) (front : pairs ≡ first_chunks 2 (length ws / 2) ws) (less : i < length ws / 2) where
  -- the words of a pair
  word_at : (j : ℕ) → j < 2 → get_or (get_or pairs i d) j no_word ≡ get_or ws (2 * i + j) no_word
  word_at j two = rw front (in_pair (length ws / 2) ws i j d less two)

  pub pair : texts (drop (2 * i) ws) ≡ (get_or (get_or pairs i d) 0 no_word).now ∷ (get_or (get_or pairs i d) 1 no_word).now ∷ texts (drop (2 * (i + 1)) ws)
  pair =
      let twice : 2 * (i + 1) ≡ 2 * i + 1 + 1 = omega arith in
      let none : 2 * i + 0 ≡ 2 * i = omega arith in
      rw (word_at 0 (omega arith), word_at 1 (omega arith), twice, none, next_word ws (2 * i) (omega (arith, less)), next_word ws (2 * i + 1) (omega (arith, less))) refl

  module _ (levels : List ℕ) (steps : List ℤ) where
    pub knots_more : (n : ℕ) (z : ℤ) → unsigned 16 (get_or (get_or pairs i d) 0 no_word).now ≡ Some n → signed 31 (get_or (get_or pairs i d) 1 no_word).now ≡ Some z → knots_of i levels steps (texts (drop (2 * i) ws)) ≡ knots_of (i + 1) (set levels i n) (set steps i z) (texts (drop (2 * (i + 1)) ws))
    knots_more n z level step = rw (pair, level, step) refl

    -- a knee past the sixth is only counted
    pub knots_past : (n : ℕ) (z : ℤ) → unsigned 16 (get_or (get_or pairs i d) 0 no_word).now ≡ Some n → signed 31 (get_or (get_or pairs i d) 1 no_word).now ≡ Some z → length levels ≡ 6 → length steps ≡ 6 → 6 ≤ i → knots_of i levels steps (texts (drop (2 * i) ws)) ≡ knots_of (i + 1) levels steps (texts (drop (2 * (i + 1)) ws))
    knots_past n z level step six six' past =
        knots_more n z level step ∙ rw (set_past levels i n (omega (arith, six, past)), set_past steps i z (omega (arith, six', past))) refl
