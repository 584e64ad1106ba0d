-- Fields that lie one after another in bytes: unsigned numbers, and signed ones in two's complement.
use Rattle.std.specs.Prelude.{ℕ, ◌+◌, ◌^◌, ◌<◌, List, [], ◌∷◌, ◌++◌, take, drop, ℤ, FitsSigned}
use Rattle.std.specs.Int.{Width}
use mir.Val.{bits, bytes, to_z, of_z}
use Rattle.sheet.specs.Numbers.{number, big_endian}

-- a field is an unsigned or a signed number of a width, such as w16 for 16 bits
pub data Field : Type 0 where
  unsigned : Width → Field
  signed : Width → Field

-- how many bytes it takes
abbrev pub width : Field → ℕ
width (unsigned w) = bytes w
width (signed w) = bytes w

-- and how many several take
abbrev pub size : List Field → ℕ
size [] = 0
size (f ∷ fs) = width f + size fs

-- what it holds
abbrev pub Value : Field → Type 0
Value (unsigned w) = ℕ
Value (signed w) = ℤ

-- and what several hold, in their order
abbrev pub Values : List Field → Type 0
Values [] = Unit {0}
Values (f ∷ fs) = Value f × Values fs

-- what is held where the bytes write a number
abbrev pub value : (f : Field) → ℕ → Value f
value (unsigned w) n = n
value (signed w) n = to_z w n

-- a field has room for a value
abbrev pub Holds : (f : Field) → Value f → Type 0
Holds (unsigned w) n = n < 2 ^ bits w
Holds (signed w) z = FitsSigned w z

-- and several for theirs
abbrev pub AllHold : (fs : List Field) → Values fs → Type 0
AllHold [] vs = Unit {0}
AllHold (f ∷ fs) vs = Holds f vs.0 × AllHold fs vs.1

-- the number that the bytes write for what is held
abbrev pub written : (f : Field) → Value f → ℕ
written (unsigned w) n = n
written (signed w) z = of_z w z

-- the number of so many bytes from a place on
abbrev pub number_at : List ℕ → ℕ → ℕ → ℕ
number_at bs at n = number (take n (drop at bs))

-- what fields hold that lie in bytes from a place on
abbrev pub values : (fs : List Field) → ℕ → List ℕ → Values fs
values [] at bs = tt
values (f ∷ fs) at bs = (value f (number_at bs at (width f)), values fs (at + width f) bs)

-- the bytes of fields
abbrev pub packed : (fs : List Field) → Values fs → List ℕ
packed [] vs = []
packed (f ∷ fs) vs = big_endian (width f) (written f vs.0) ++ packed fs vs.1
