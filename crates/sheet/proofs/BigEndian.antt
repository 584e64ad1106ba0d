-- A number and its bytes: each gives the other back.
use Rattle.std.proofs.Common.{◌≡◌, ℕ, zero, suc, ◌+◌, ◌*◌, ◌/◌, ◌%◌, ◌^◌, ◌<◌, ◌≤◌, List, [], ◌∷◌, ◌++◌, length, get_or, take, sym, refl, ap, ◌∙◌, ap₂, div-lt_iff_lt-mul, pow-suc, div-add-mod', add-one, arith}
use lib.Arith.{digits_div, digits_mod}
use Rattle.std.proofs.lemmas.Int.Digits.{number_push, number_more, number_lt}
use Rattle.std.proofs.ByRecursion.{All-get_or}
use Rattle.std.proofs.lemmas.List.{take_more, take_all}
use Rattle.std.specs.Int.Digits.{AllBelowBase}
use Rattle.sheet.specs.Numbers.{number, big_endian}

pub number_big_endian : (width n : ℕ) → n < 256 ^ width → number (big_endian width n) ≡ n
unfolding number big_endian
number_big_endian zero n small = omega arith
number_big_endian (suc width) n small =
    let bound : n < 256 ^ width * 256 = rw pow-suc at small in
    let fewer : n / 256 < 256 ^ width = (div-lt_iff_lt-mul (omega arith)).1 bound in
    number_push 256 (big_endian width (n / 256)) (n % 256) ∙ ap (λ (q : ℕ). q * 256 + n % 256) (number_big_endian width (n / 256) fewer) ∙ div-add-mod' n 256

big_endian_first : (width : ℕ) (bytes : List ℕ) → width ≤ length bytes → AllBelowBase 256 bytes → big_endian width (number (take width bytes)) ≡ take width bytes
unfolding number big_endian
big_endian_first zero bytes within under = refl
big_endian_first (suc width) bytes within under =
    let last = All-get_or (λ b. b < 256) bytes width 0 within under in
    let one : suc width ≡ width + 1 = sym (add-one width) in
    let more = ap (λ (n : ℕ). number (take n bytes)) one ∙ number_more 256 bytes width within in
    let front = ap (λ (n : ℕ). n / 256) more ∙ digits_div (number (take width bytes)) last in
    let rest = ap (λ (n : ℕ). n % 256) more ∙ digits_mod (number (take width bytes)) last in
    ap₂ (λ (n b : ℕ). big_endian width n ++ b ∷ []) front rest
    ∙ ap (λ (bs : List ℕ). bs ++ get_or bytes width 0 ∷ []) (big_endian_first width bytes (omega arith) under)
    ∙ sym (ap (λ (n : ℕ). take n bytes) one ∙ take_more bytes width 0 within)

pub big_endian_number : (bytes : List ℕ) → AllBelowBase 256 bytes → big_endian (length bytes) (number bytes) ≡ bytes
big_endian_number bytes under =
    let all = take_all (length bytes) bytes (omega arith) in
    ap (λ (bs : List ℕ). big_endian (length bytes) (number bs)) (sym all) ∙ big_endian_first (length bytes) bytes (omega arith) under ∙ all

pub number_small : (bytes : List ℕ) → AllBelowBase 256 bytes → number bytes < 256 ^ length bytes
unfolding number
number_small bytes under = number_lt 256 bytes under
