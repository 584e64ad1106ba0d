-- The walk back over stored marks, one slot at a time.
use Rattle.std.proofs.Common.{◌≡◌, ℕ, List, [], ◌∷◌, ◌++◌, length, drop, set, sym, refl, append_assoc, arith, length-append}
use Rattle.std.proofs.lemmas.List.{append-nil, drop_all, drop-set, nil_from_length}
use Rattle.optimum.proofs.Marks.{held_between, walk_back}
use Rattle.optimum.proofs.Sweep.{first_level}

-- the marks in `left` are still to be walked over, the levels behind them are found, and level is the first of those
pub record Walked (marks left : List (List ℕ)) (levels : List ℕ) (level : ℕ) : Type 0 where
  pub done : List (List ℕ)
  pub all : marks ≡ left ++ done
  pub found : drop (length left) levels ≡ walk_back done
  pub first : level ≡ first_level (walk_back done)

module _ {marks : List (List ℕ)} where
  -- at first none is found
  pub walked_none : (levels : List ℕ) → length levels ≡ length marks → Walked marks marks levels 0
  unfolding walk_back first_level
  walked_none levels each = record { done = []; all = sym (append-nil marks); found = drop_all (length marks) levels (omega arith); first = refl }

  -- one slot more
  pub walked_more :
      {left : List (List ℕ)} {levels : List ℕ} {level : ℕ} → Walked marks left levels level → (rest : List (List ℕ)) (mark : List ℕ) (found : ℕ) →
      left ≡ rest ++ (mark ∷ []) → length levels ≡ length marks → found ≡ held_between mark level → Walked marks rest (set levels (length rest) found) found
  unfolding walk_back first_level
  walked_more {left} {levels} walked rest mark found more each is =
      let all = rw (more, append_assoc) at walked.all in
      let long = rw (all, length-append) at each in
      let behind = rw (more, length-append) at walked.found in
      record {
        done = mark ∷ walked.done;
        all = all;
        found = rw (drop-set levels (length rest) found (omega arith), behind, is, walked.first);
        first = rw (← walked.first) is;
      }

  -- in the end all are
  pub walked_all : {left : List (List ℕ)} {levels : List ℕ} {level : ℕ} → Walked marks left levels level → length left ≡ 0 → levels ≡ walk_back marks
  walked_all {left} walked end =
      let none = nil_from_length left end in
      let found = rw none at walked.found in
      let all = rw none at walked.all in
      rw (all, found)
