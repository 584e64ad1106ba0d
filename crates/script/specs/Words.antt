-- The lines and words of a text, and the numbers that words write.
use Rattle.std.specs.Prelude.{ℕ, ◌^◌, Bool, true, cond, ◌&&◌, List, [], ◌∷◌, length, ℤ, Some, None, Option, ◌==◌, nat_lt, slice_index_or}
use Rattle.std.specs.Int.Signed.{mag}
use Rattle.std.specs.Str.Parse.{digits_value, without_leading_plus, without_leading_sign, signed_digits_value}
use Rattle.std.specs.Char.{digit_value}

-- a byte before the first piece
abbrev pub onto : ℕ → List (List ℕ) → List (List ℕ)
onto b [] = (b ∷ []) ∷ []
onto b (piece ∷ pieces) = (b ∷ piece) ∷ pieces

-- a text cut at each place of a byte
abbrev pub cut : ℕ → List ℕ → List (List ℕ)
cut byte [] = [] ∷ []
cut byte (b ∷ bs) = cond (b == byte) ([] ∷ cut byte bs) (onto b (cut byte bs))

-- the word at a place
abbrev pub word : List (List ℕ) → ℕ → List ℕ
word ws i = slice_index_or ws i []

-- a value where a test holds
abbrev pub only_if : {X : Type 0} → Bool → Option X → Option X
only_if test o = cond test o None

-- a value made of another, where there is one
abbrev pub and_then : {X Y : Type 0} → Option X → (X → Option Y) → Option Y
and_then None f = None
and_then (Some x) f = f x

-- nothing but decimal digits
abbrev pub digits : List ℕ → Bool
digits [] = true
digits (c ∷ cs) = nat_lt (digit_value c) 10 && digits cs

-- one digit at least
abbrev pub numeral : List ℕ → Bool
numeral ds = nat_lt 0 (length ds) && digits ds

-- the number that a word writes, where it fits so many bits; a plus may stand first
abbrev pub unsigned : ℕ → List ℕ → Option ℕ
unsigned bits w = only_if (numeral (without_leading_plus w) && nat_lt (digits_value 10 (without_leading_plus w)) (2 ^ bits)) (Some (digits_value 10 (without_leading_plus w)))

-- the same with a sign, where it fits so many bits beside the sign; a plus or a minus may stand first
abbrev pub signed : ℕ → List ℕ → Option ℤ
signed bits w = only_if (numeral (without_leading_sign w) && nat_lt (mag (signed_digits_value 10 w)) (2 ^ bits)) (Some (signed_digits_value 10 w))

-- the number that each word writes
abbrev pub each : {X : Type 0} → (List ℕ → Option X) → List (List ℕ) → Option (List X)
each read [] = Some []
each read (w ∷ ws) = and_then (read w) (λ x. and_then (each read ws) (λ xs. Some (x ∷ xs)))
