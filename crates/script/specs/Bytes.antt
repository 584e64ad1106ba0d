-- The bytes that hexadecimal digits write.
use Rattle.std.specs.Prelude.{ℕ, ◌+◌, ◌*◌, List, [], ◌∷◌, length, Some, None, Option, nat_lt}
use Rattle.std.specs.Char.{digit_value}
use Rattle.script.specs.Words.{only_if, and_then}

-- the value of a hexadecimal digit; its letters may be upper or lower case
abbrev pub hex_digit : ℕ → Option ℕ
hex_digit c = only_if (nat_lt (digit_value c) 16) (Some (digit_value c))

-- the byte that two digits write, the high one first
abbrev pub hex_byte : ℕ → ℕ → Option ℕ
hex_byte h l = and_then (hex_digit h) (λ high. and_then (hex_digit l) (λ low. Some (16 * high + low)))

-- a byte for each two digits
abbrev pub hex_bytes : List ℕ → Option (List ℕ)
hex_bytes [] = Some []
hex_bytes (h ∷ []) = None
hex_bytes (h ∷ l ∷ ds) = and_then (hex_byte h l) (λ b. and_then (hex_bytes ds) (λ bs. Some (b ∷ bs)))

-- one byte at least
abbrev pub bytes_of : List ℕ → Option (List ℕ)
bytes_of w = only_if (nat_lt 0 (length w)) (hex_bytes w)
