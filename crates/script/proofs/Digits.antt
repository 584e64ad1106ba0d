-- The library reads hexadecimal digits as we do.
use Rattle.std.proofs.Common.{◌≡◌, ℕ, ◌+◌, ◌*◌, ◌%◌, ◌<◌, false, eqb, ltb, List, [], ◌∷◌, length, Some, None, Ok, Err, Option, Result, sym, refl, ap, ◌∙◌, ◌⊎◌, inl, inr, IsErrAnd, arith}
use Rattle.std.proofs.lemmas.Bool.{cond-true, lt-ltb, cases_Bool, and_cases, eqb-true}
use Rattle.std.proofs.lemmas.Bool.Decides.{nat_tests}
use Rattle.std.specs.Char.{is_ascii_hexdigit}
use Rattle.std.specs.List.{list_all}
use Rattle.std.specs.Result.{result_ok}
use Rattle.hex.specs.Hex.{hex_digit_value, digit_or_error, pair_value, decode_of, decode_pairs, ◌>>=◌}
use Rattle.hex.specs.declared.error.FromHexError.{FromHexError}
use Rattle.hex.specs.declared.error.FromHexError.TheVariants.{OutOfMemory}
use Rattle.script.specs.Answers.{Says}
use Rattle.script.specs.Bytes.{hex_digit, hex_byte, hex_bytes, bytes_of}
use Rattle.script.specs.Words.{and_then}
use Rattle.script.proofs.Texts.{quiet, none_then}
use Rattle.script.specs.declared.fault.LineFault.{LineFault}
use Rattle.script.specs.declared.fault.LineFault.TheVariants.{NotACall, NoMemory}

digit : (c : ℕ) → hex_digit_value c ≡ hex_digit c
digit c = grind (arith, nat_tests)

same_digit : (c i : ℕ) (o : Option ℕ) → result_ok (digit_or_error c i o) ≡ o
same_digit c i (Some v) = refl
same_digit c i None = refl

two : (h l : Result ℕ FromHexError) → result_ok (h >>= (λ a. l >>= (λ b. Ok (a * 16 + b)))) ≡ and_then (result_ok h) (λ a. and_then (result_ok l) (λ b. Some (16 * a + b)))
two (Err e) l = refl
two (Ok a) (Err e) = refl
two (Ok a) (Ok b) = ap (λ (n : ℕ). Some n) (omega arith)

byte : (h l i : ℕ) → result_ok (pair_value h l i) ≡ hex_byte h l
byte h l i =
    two (digit_or_error h i (hex_digit_value h)) (digit_or_error l (i + 1) (hex_digit_value l))
    ∙ rw (same_digit h i (hex_digit_value h), same_digit l (i + 1) (hex_digit_value l), digit h, digit l) refl

more : (b : Result ℕ FromHexError) (bs : Result (List ℕ) FromHexError) → result_ok (b >>= (λ x. bs >>= (λ xs. Ok (x ∷ xs)))) ≡ and_then (result_ok b) (λ x. and_then (result_ok bs) (λ xs. Some (x ∷ xs)))
more (Err e) bs = refl
more (Ok x) (Err e) = refl
more (Ok x) (Ok xs) = refl

pairs : (i : ℕ) (ds : List ℕ) → result_ok (decode_pairs i ds) ≡ hex_bytes ds
unfolding decode_pairs
pairs i [] = refl
pairs i (h ∷ []) = refl
pairs i (h ∷ l ∷ ds) = more (pair_value h l i) (decode_pairs (i + 2) ds) ∙ rw (byte h l i, pairs (i + 2) ds) refl

odd : (ds : List ℕ) → length ds % 2 ≡ 1 → hex_bytes ds ≡ None
odd [] one = absurd (omega (arith, one))
odd (h ∷ []) one = refl
odd (h ∷ l ∷ ds) one = quiet (hex_byte h l) _ (λ b. none_then (hex_bytes ds) _ (odd ds (omega (arith, one))))

no_digit : (c : ℕ) → is_ascii_hexdigit c ≡ false → hex_digit c ≡ None
no_digit c other = grind (arith, nat_tests)

-- a word with a character that is no digit says nothing
pub no_bytes : (ds : List ℕ) → list_all is_ascii_hexdigit ds ≡ false → hex_bytes ds ≡ None
no_bytes [] other = absurd (cc)
no_bytes (h ∷ []) other = refl
no_bytes (h ∷ l ∷ ds) other =
    elim (and_cases (is_ascii_hexdigit h) _ other) [
      | inl is ↦ none_then (hex_byte h l) _ (none_then (hex_digit h) _ (no_digit h is))
      | inr after ↦
          elim (and_cases (is_ascii_hexdigit l) _ after) [
            | inl is ↦ none_then (hex_byte h l) _ (quiet (hex_digit h) _ (λ a. none_then (hex_digit l) _ (no_digit l is)))
            | inr rest ↦ quiet (hex_byte h l) _ (λ b. none_then (hex_bytes ds) _ (no_bytes ds rest))
          ]
    ]

decoded : (w : List ℕ) → result_ok (decode_of w) ≡ hex_bytes w
decoded w =
    elim (cases_Bool (eqb (length w % 2) 1)) [
      | inl is ↦ rw is (sym (odd w (eqb-true (length w % 2) 1 is)))
      | inr not ↦ rw not (pairs 0 w)
    ]

-- a word of one digit at least is decoded as it says
pub says : (w : List ℕ) → 0 < length w → bytes_of w ≡ result_ok (decode_of w)
says w some = cond-true (ltb 0 (length w)) (hex_bytes w) None (lt-ltb 0 (length w) some) ∙ sym (decoded w)

-- and where it is not, it says nothing
pub fails : {X : Type 0} (view : X → List ℕ) (r : Result X LineFault) (fault : FromHexError) (w : List ℕ) → 0 < length w → IsErrAnd r (λ e. (fault ≡ OutOfMemory → e ≡ NoMemory) × ((fault ≡ OutOfMemory → ⊥) → e ≡ NotACall)) → (fault ≡ OutOfMemory) ⊎ (decode_of w ≡ Err fault) → Says view r (bytes_of w)
fails view (Ok x) fault w some not is = absurd not
fails view (Err NoMemory) fault w some given is = tt
fails view (Err NotACall) fault w some given (inl full) = absurd (let z : NotACall ≡ NoMemory = given.0 full in cc)
fails view (Err NotACall) fault w some given (inr is) = says w some ∙ ap result_ok is
