-- What a text is cut into is what the library splits it into.
use Rattle.std.proofs.Common.{◌≡◌, ℕ, eqb, List, [], ◌∷◌, refl}
use Rattle.std.specs.List.{onto_first, slice_split}
use Rattle.script.specs.Words.{onto, cut}

put_first : (b : ℕ) (pieces : List (List ℕ)) → onto_first b pieces ≡ onto b pieces
put_first b [] = refl
put_first b (piece ∷ pieces) = refl

pub splits : (byte : ℕ) (text : List ℕ) → slice_split (λ b. eqb b byte) text ≡ cut byte text
splits byte [] = refl
splits byte (b ∷ bs) = rw (splits byte bs, put_first b (cut byte bs)) refl
