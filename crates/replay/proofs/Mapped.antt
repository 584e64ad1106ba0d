-- What a result was before its error was mapped.
use Rattle.std.proofs.Common.{◌≡◌, Ok, Err, Result}
use Rattle.std.specs.Result.{MatchResult, IsErrAnd, OnErr}

module _ {T E D : Type 0} where
  pub was_ok : (r : Result T E) (m : Result T D) (x : T) (P : E → D → Type 0) → m ≡ Ok x → MatchResult r (λ y. m ≡ Ok y) (λ e. IsErrAnd m (P e)) → r ≡ Ok x
  was_ok (Ok y) m x P is mapped = cc
  was_ok (Err e) (Ok y) x P is mapped = absurd mapped
  was_ok (Err e) (Err d) x P is mapped = cc

  pub was_err : {Q : Type 0} (r : Result T E) (m : Result T D) (d : D) (P : E → D → Type 0) → m ≡ Err d → MatchResult r (λ y. m ≡ Ok y) (λ e. IsErrAnd m (P e)) → OnErr r Q → Q
  was_err (Ok y) m d P is mapped failed = absurd cc
  was_err (Err e) m d P is mapped failed = failed

  -- what its error was mapped to
  pub mapped_from : (r : Result T E) (m : Result T D) (d : D) (P : E → D → Type 0) → m ≡ Err d → MatchResult r (λ y. m ≡ Ok y) (λ e. IsErrAnd m (P e)) → (e : E) × P e d
  mapped_from (Ok y) m d P is mapped = absurd cc
  mapped_from (Err e) m d P is mapped = (e, rw is at mapped)
