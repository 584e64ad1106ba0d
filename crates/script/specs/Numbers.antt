-- What `parse` reads of a word is the number that the word writes.
use Rattle.std.proofs.Common.{◌≡◌, ℕ, ◌^◌, ◌<◌, Bool, true, false, ◌&&◌, ltb, List, [], ◌∷◌, length, ℤ, Some, None, Ok, Err, Result, sym, refl, ap, ◌∙◌, ⊎_elim, SFits}
use lib.Signed.{mag}
use mir.Syntax.{Width}
use mir.Val.{hbits}
use Rattle.std.proofs.lemmas.Bool.{ltb-true, lt-ltb, and_parts, and_from, cond-true, cond-false, cases_Bool}
use Rattle.std.specs.Result.{OkIff, result_ok}
use Rattle.std.specs.Str.Parse.{AllDigits, IsNumeral, digits_value, without_leading_plus, without_leading_sign, signed_digits_value, ParsesUnsigned, ParsesSigned}
use Rattle.std.specs.Char.{digit_value}
use Rattle.script.specs.Words.{only_if, digits, numeral, unsigned, signed}

digits_so : (ds : List ℕ) → AllDigits 10 ds → digits ds ≡ true
digits_so [] h = refl
digits_so (c ∷ cs) (one, more) = and_from (ltb (digit_value c) 10) (digits cs) (lt-ltb _ _ one) (digits_so cs more)

so_digits : (ds : List ℕ) → digits ds ≡ true → AllDigits 10 ds
so_digits [] h = tt
so_digits (c ∷ cs) h =
    let both = and_parts (ltb (digit_value c) 10) (digits cs) h in
    (ltb-true _ _ both.0, so_digits cs both.1)

numeral_so : (ds : List ℕ) → IsNumeral 10 ds → numeral ds ≡ true
numeral_so ds (some, all) = and_from _ _ (lt-ltb 0 (length ds) some) (digits_so ds all)

so_numeral : (ds : List ℕ) → numeral ds ≡ true → IsNumeral 10 ds
so_numeral ds h =
    let both = and_parts (ltb 0 (length ds)) (digits ds) h in
    (ltb-true _ _ both.0, so_digits ds both.1)

-- a test that holds just where a conversion succeeds
converted : {X E : Type 0} (r : Result X E) (P : Type 0) (test : Bool) (x : X) → (P → test ≡ true) → (test ≡ true → P) → OkIff r P x → result_ok r ≡ only_if test (Some x)
converted (Ok y) P test x so from (fits, is) = ap (λ z. Some z) is ∙ sym (cond-true test (Some x) None (so fits))
converted (Err e) P test x so from not =
    ⊎_elim (λ (h : test ≡ true). absurd (not (from h))) (λ (h : test ≡ false). sym (cond-false test (Some x) None h)) (cases_Bool test)

pub unsigned_read : {E : Type 0} (bits : ℕ) (w : List ℕ) (r : Result ℕ E) → ParsesUnsigned bits 10 w r → result_ok r ≡ unsigned bits w
unsigned_read bits w r h =
    let ds = without_leading_plus w in
    converted r (IsNumeral 10 ds × (digits_value 10 ds < 2 ^ bits)) (numeral ds && ltb (digits_value 10 ds) (2 ^ bits)) (digits_value 10 ds)
    (λ p. and_from _ _ (numeral_so ds p.0) (lt-ltb _ _ p.1))
    (λ t. let both = and_parts (numeral ds) (ltb (digits_value 10 ds) (2 ^ bits)) t in (so_numeral ds both.0, ltb-true _ _ both.1))
    h

pub signed_read : {E : Type 0} (width : Width) (w : List ℕ) (r : Result ℤ E) → ParsesSigned width 10 w r → result_ok r ≡ signed (hbits width) w
signed_read width w r h =
    let ds = without_leading_sign w in
    let z = signed_digits_value 10 w in
    converted r (IsNumeral 10 ds × SFits width z) (numeral ds && ltb (mag z) (2 ^ hbits width)) z
    (λ p. and_from _ _ (numeral_so ds p.0) (lt-ltb _ _ p.1.sfits))
    (λ t. let both = and_parts (numeral ds) (ltb (mag z) (2 ^ hbits width)) t in (so_numeral ds both.0, record { sfits = ltb-true _ _ both.1 }))
    h
