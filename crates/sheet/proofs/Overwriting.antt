-- Bytes that are written over others, part by part.
use Rattle.std.proofs.Common.{◌≡◌, ℕ, zero, suc, ◌+◌, ◌*◌, ◌/◌, ◌%◌, ◌^◌, ◌<◌, ◌≤◌, List, [], ◌∷◌, ◌++◌, length, take, drop, sym, refl, ap, ◌∙◌, ap₂, subst, append_assoc, pow-suc, mul_comm, add-one, arith, length-append}
use Rattle.std.proofs.lemmas.List.{length_push, take-append-drop, take_at, drop_at, drop-drop, append-nil, length-take-le}
use Rattle.std.specs.Int.{byte_at, bytes_high_first}
use native.Mathlib.Nat.{div-div-eq-div-mul}
use Rattle.sheet.specs.Buffers.{over, Puts}
use Rattle.sheet.specs.Numbers.{big_endian}
use Rattle.sheet.specs.declared.writer.Writer.{Writer}

pub length_big_endian : (width n : ℕ) → length (big_endian width n) ≡ width
unfolding big_endian
length_big_endian zero n = refl
length_big_endian (suc width) n = length_push (big_endian width (n / 256)) (n % 256) ∙ ap (λ (w : ℕ). w + 1) (length_big_endian width (n / 256)) ∙ add-one width

-- nothing written
pub over_none : (place : ℕ) (out : List ℕ) → out ≡ over [] place out
over_none place out = let start : place + 0 ≡ place = omega arith in rw start (sym (take-append-drop place out))

-- some bytes, and then those after them
pub over_over : (xs ys : List ℕ) (place : ℕ) (out : List ℕ) → place ≤ length out → over ys (place + length xs) (over xs place out) ≡ over (xs ++ ys) place out
over_over xs ys place out within =
    let rest = drop (place + length xs) out in
    let whole = append_assoc (take place out) xs rest in
    let size : length (take place out ++ xs) ≡ place + length xs = rw (length-append, length-take-le place out within) in
    let front : take (place + length xs) (over xs place out) ≡ take place out ++ xs = ap (take (place + length xs)) (sym whole) ∙ take_at (take place out ++ xs) rest (place + length xs) size in
    let back : drop (place + length xs + length ys) (over xs place out) ≡ drop (place + length xs + length ys) out =
    sym (drop-drop (length ys) (place + length xs) (over xs place out))
    ∙ ap (drop (length ys)) (ap (drop (place + length xs)) (sym whole) ∙ drop_at (take place out ++ xs) rest (place + length xs) size)
    ∙ drop-drop (length ys) (place + length xs) out
    in
    let far : place + length xs + length ys ≡ place + length (xs ++ ys) = rw length-append (omega arith) in
    ap₂ (λ (a b : List ℕ). a ++ (ys ++ b)) front (back ∙ ap (λ (n : ℕ). drop n out) far)
    ∙ append_assoc (take place out) xs (ys ++ drop (place + length (xs ++ ys)) out)
    ∙ ap (λ (bytes : List ℕ). take place out ++ bytes) (sym (append_assoc xs ys (drop (place + length (xs ++ ys)) out)))

-- the bytes of a number, as the library gives them
next_byte : (i n : ℕ) → byte_at (suc i) n ≡ byte_at i (n / 256)
next_byte zero n = refl
next_byte (suc i) n =
    let power : 256 ^ suc (suc i) ≡ 256 * 256 ^ suc i = pow-suc 256 (suc i) ∙ mul_comm (256 ^ suc i) 256 in
    ap (λ (m : ℕ). m % 256) (ap (λ (m : ℕ). n / m) power ∙ sym (div-div-eq-div-mul n 256 (256 ^ suc i)))

last_byte : (width n : ℕ) → bytes_high_first (suc width) n ≡ bytes_high_first width (n / 256) ++ n % 256 ∷ []
last_byte zero n = refl
last_byte (suc width) n = ap₂ (λ (b : ℕ) (bs : List ℕ). b ∷ bs) (next_byte width n) (last_byte width n)

high_first : (width n : ℕ) → bytes_high_first width n ≡ big_endian width n
unfolding big_endian
high_first zero n = refl
high_first (suc width) n = last_byte width n ∙ ap (λ (bs : List ℕ). bs ++ n % 256 ∷ []) (high_first width (n / 256))

pub one_byte : (n : ℕ) → n < 256 → n ∷ [] ≡ big_endian 1 n
unfolding big_endian
one_byte n small = let same : n ≡ n % 256 = omega arith in ap (λ (b : ℕ). b ∷ []) same

-- what is put one after another
pub puts_then : {a b c : Writer} {xs ys : List ℕ} → Puts a xs b → Puts b ys c → Puts a (xs ++ ys) c
puts_then {a} {b} {c} {xs} {ys} p q =
    record {
      fits = rw length-append (omega (arith, p.place, p.size, p.fits, q.fits));
      written = q.written ∙ ap₂ (λ (at : ℕ) (was : List ℕ). over ys at was) p.place p.written ∙ over_over xs ys a.place a.out.now (omega (arith, p.fits));
      size = q.size ∙ p.size;
      place = rw length-append (omega (arith, p.place, q.place));
      lender = q.lender ∙ p.lender;
    }

pub puts_as : {a b : Writer} {xs ys : List ℕ} → Puts a xs b → xs ≡ ys → Puts a ys b
puts_as {a} {b} p e = let P : List ℕ → Type 0 = λ bs. Puts a bs b in subst P e p

pub puts_nothing : (a : Writer) → a.place ≤ length a.out.now → Puts a [] a
puts_nothing a within =
    record { fits = omega arith; written = over_none a.place a.out.now; size = refl; place = omega arith; lender = refl }

-- a number, and the last of several
pub puts_number : {a b : Writer} {bytes : List ℕ} (width n : ℕ) → Puts a bytes b → bytes ≡ bytes_high_first width n → Puts a (big_endian width n) b
puts_number width n p e = puts_as p (e ∙ high_first width n)

pub puts_last : {a b : Writer} {xs : List ℕ} → Puts a xs b → Puts a (xs ++ []) b
puts_last {a} {b} {xs} p = puts_as p (sym (append-nil xs))
