-- Numbers as bytes, the most significant byte first.
use Rattle.std.specs.Prelude.{ℕ, zero, suc, ◌/◌, ◌%◌, List, [], ◌∷◌, ◌++◌}
use Rattle.std.specs.Int.Digits.{number_from_digits as number_in_base}

-- the number that bytes write
unfoldable pub number : List ℕ → ℕ
number bytes = number_in_base 256 bytes

-- so many bytes of a number, the last of them what remains of it after division by 256
unfoldable pub big_endian : ℕ → ℕ → List ℕ
big_endian zero n = []
big_endian (suc width) n = big_endian width (n / 256) ++ n % 256 ∷ []
