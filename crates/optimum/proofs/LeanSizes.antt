-- How large the leans of the two passes can be, so that a program can rule out overflow.
use Rattle.std.proofs.Common.{◌≡◌, ℕ, ◌+◌, ◌-◌, ◌*◌, ◌<◌, ◌≤◌, true, List, [], ◌∷◌, ◌++◌, length, take, drop, ℤ, pos, neg_ℤ, ◌≤ℤ◌, Some, None, Option, arith}
use native.Mathlib.Decide.{dec_lt}
use Rattle.std.specs.List.{AllByRecursion}
use Rattle.std.proofs.ByRecursion.{All-weaker, All-append, All-take, All-drop}
use Rattle.std.proofs.lemmas.Int.{ints, clamps}
use Rattle.curve.specs.Limits.{top}
use Rattle.optimum.specs.Plans.{Terms, Within}
use Rattle.optimum.specs.Leans.{Obeys, next_lean, bounded}
use Rattle.optimum.proofs.Stands.{stand, obeys_first}
use Rattle.optimum.proofs.LeanPasses.{forward_lean, forward_rise, forward_fall, forward_lowest, forward_stay, forward_from, forward_with, forward}
use Rattle.optimum.proofs.LeanPasses.{backward_lean, backward_raised, backward_top, backward}

-- z lies from minus n to n
pub record Sized (n : ℕ) (z : ℤ) : Type 0 where
  pub least : neg_ℤ (pos n) ≤ℤ z
  pub most : z ≤ℤ pos n

-- the tolls of a slot are at most b, and so are the sizes of its steps below its high level
pub record SizedTerms (b : ℕ) (t : Terms) : Type 0 where
  pub ups : t.up ≤ b
  pub downs : t.down ≤ b
  pub steps : (v : ℕ) → v < t.high → Sized b (t.steps v)

-- what is within a size is within a greater one
pub sized_wider : (m n : ℕ) → m ≤ n → (z : ℤ) → Sized m z → Sized n z
sized_wider m n wider z s = record { least = omega (arith, ints, s.least); most = omega (arith, ints, s.most) }

module _ (b : ℕ) where
  -- a lean of the first pass is larger than the one before it by at most b
  pub forward_lean_size :
      (n : ℕ) (t₀ : Terms) (u : ℕ) (l₀ : ℤ) (t : Terms) (x : ℕ) → SizedTerms b t₀ → SizedTerms b t → u ≤ t₀.high → Sized n l₀ →
      Sized (n + b) (forward_lean t₀ u l₀ t x)
  forward_lean_size n t₀ u l₀ t x k₀ k upto s =
      let ups = k.ups in
      let downs = k.downs in
      elim (dec_lt u x) [
        | yes rise ↦ rw (forward_rise t₀ u l₀ t x rise) (record { least = omega (arith, ints); most = omega (arith, ints) })
        | no h ↦
            elim (dec_lt x u) [
              | yes fall ↦ rw (forward_fall t₀ u l₀ t x fall) (record { least = omega (arith, ints); most = omega (arith, ints) })
              | no h' ↦
                  elim (dec_lt t₀.low x) [
                    | yes lower ↦
                        let stay = forward_stay t₀ u l₀ t x (omega arith) lower in
                        let step = k₀.steps (x - 1) (omega arith) in
                        record { least = omega (arith, ints, clamps); most = omega (arith, ints, clamps) }
                    | no lowest ↦
                        rw
                        (forward_lowest t₀ u l₀ t x (omega arith) (omega arith))
                        (record { least = omega (arith, ints); most = omega (arith, ints) })
                  ]
            ]
      ]

  -- behind a lean within n, those of the first pass over some slots lie within n and b for each of them
  forward_from_size :
      (n : ℕ) (t₀ : Terms) (u : ℕ) (l₀ : ℤ) (ts : List Terms) (xs : List ℕ) → SizedTerms b t₀ → AllByRecursion (SizedTerms b) ts → u ≤ t₀.high → Within ts xs → Sized n l₀ →
      AllByRecursion (Sized (n + length ts * b)) (forward_from t₀ u l₀ ts xs)
  unfolding forward_from Within
  forward_from_size n t₀ u l₀ [] xs k₀ ks upto within s = tt
  forward_from_size n t₀ u l₀ (t ∷ ts) [] k₀ ks upto within s = tt
  forward_from_size n t₀ u l₀ (t ∷ ts) (x ∷ xs) k₀ ks upto within s =
      let l : ℤ = forward_lean t₀ u l₀ t x in
      let here = forward_lean_size n t₀ u l₀ t x k₀ ks.0 upto s in
      let rest = forward_from_size (n + b) t x l ts xs ks.0 ks.1 within.1 within.2 here in
      let regroup : n + b + length ts * b ≡ n + length (t ∷ ts) * b = omega arith in
      (sized_wider (n + b) (n + length (t ∷ ts) * b) (omega arith) l here, rw regroup at rest)

  -- the leans of the first pass over some slots lie within b for each of them
  pub forward_size : (ts : List Terms) (xs : List ℕ) → AllByRecursion (SizedTerms b) ts → Within ts xs → AllByRecursion (Sized (length ts * b)) (forward ts xs)
  unfolding forward forward_with Within
  forward_size [] xs ks within = tt
  forward_size (t ∷ ts) [] ks within = absurd within
  forward_size (t ∷ ts) (x ∷ xs) ks within =
      let none : Sized 0 (pos 0) = record { least = omega (arith, ints); most = omega (arith, ints) } in
      let rest = forward_from_size 0 t x (pos 0) ts xs ks.0 ks.1 within.1 within.2 none in
      let wider = sized_wider (0 + length ts * b) (length (t ∷ ts) * b) (omega arith) in
      (sized_wider 0 (length (t ∷ ts) * b) (omega arith) (pos 0) none, All-weaker _ _ wider (forward_from t x (pos 0) ts xs) rest)

  -- a lean of the second pass is larger than those it is made of by at most b
  pub backward_lean_size :
      (n : ℕ) (t : Terms) (x : ℕ) (l next : ℤ) → SizedTerms b t → Sized n l → Sized n next → Sized (n + b) (backward_lean t x l next)
  backward_lean_size n t x l next k s s' =
      elim (dec_lt x t.high) [
        | yes lower ↦
            let raised = backward_raised t x l next lower in
            let step = k.steps x lower in
            record { least = omega (arith, ints, clamps); most = omega (arith, ints, clamps) }
        | no top ↦ rw (backward_top t x l next (omega arith)) (sized_wider n (n + b) (omega arith) l s)
      ]

  -- the lean after the last slot is 0, so the first lean of a list lies within what all do
  next_size : (n : ℕ) (ls : List ℤ) → AllByRecursion (Sized n) ls → Sized n (next_lean ls)
  unfolding next_lean
  next_size n [] all = record { least = omega (arith, ints); most = omega (arith, ints) }
  next_size n (l ∷ ls) all = all.0

  -- from leans within n, those of the second pass over some slots lie within n and b for each of them
  pub backward_size :
      (n : ℕ) (ts : List Terms) (xs : List ℕ) (ls : List ℤ) → AllByRecursion (SizedTerms b) ts → AllByRecursion (Sized n) ls →
      AllByRecursion (Sized (n + length ts * b)) (backward ts xs ls)
  unfolding backward
  backward_size n [] xs ls ks all = tt
  backward_size n (t ∷ ts) [] ls ks all = tt
  backward_size n (t ∷ ts) (x ∷ xs) [] ks all = tt
  backward_size n (t ∷ ts) (x ∷ xs) (l ∷ ls) ks all =
      let m : ℕ = n + length ts * b in
      let rest = backward_size n ts xs ls ks.1 all.1 in
      let own = sized_wider n m (omega arith) l all.0 in
      let here = backward_lean_size m t x l (next_lean (backward ts xs ls)) ks.0 own (next_size m (backward ts xs ls) rest) in
      let regroup : m + b ≡ n + length (t ∷ ts) * b = omega arith in
      (rw regroup at here, All-weaker _ _ (sized_wider m (n + length (t ∷ ts) * b) (omega arith)) (backward ts xs ls) rest)

  -- so at every moment of the second pass, when it has come back to slot i, the leans before i and those from i on lie within that
  pub backward_moment :
      (n : ℕ) (ts : List Terms) (xs : List ℕ) (ls : List ℤ) (i : ℕ) → AllByRecursion (SizedTerms b) ts → AllByRecursion (Sized n) ls →
      AllByRecursion (Sized (n + length ts * b)) (take i ls ++ drop i (backward ts xs ls))
  backward_moment n ts xs ls i ks all =
      let m : ℕ = n + length ts * b in
      let before = All-weaker (Sized n) (Sized m) (sized_wider n m (omega arith)) ls all in
      All-append (Sized m) (take i ls) (drop i (backward ts xs ls))
      (All-take (Sized m) i ls before)
      (All-drop (Sized m) i (backward ts xs ls) (backward_size n ts xs ls ks all))

  -- a lean that obeys the first rule lies within the tolls
  bounded_size : (t : Terms) (before : Option ℕ) (x : ℕ) (l next : ℤ) → SizedTerms b t → bounded (stand t before x l next) ≡ true → Sized b l
  unfolding bounded
  bounded_size t None x l next k rule = record { least = grind (arith, ints); most = grind (arith, ints) }
  bounded_size t (Some u) x l next k rule =
      let ups = k.ups in
      let downs = k.downs in
      let least : neg_ℤ (pos t.down) ≤ℤ l = grind (arith, ints) in
      let most : l ≤ℤ pos t.up = grind (arith, ints) in
      record { least = omega (arith, ints); most = omega (arith, ints) }

  -- leans that obey the rules lie within b
  pub obeys_size :
      (before : Option ℕ) (ts : List Terms) (xs : List ℕ) (ls : List ℤ) → AllByRecursion (SizedTerms b) ts → Within ts xs → Obeys before ts xs ls → AllByRecursion (Sized b) ls
  unfolding Within
  obeys_size before ts xs [] ks within o = tt
  obeys_size before [] xs (l ∷ ls) ks within o = absurd (omega (arith, o.one_each))
  obeys_size before (t ∷ ts) [] (l ∷ ls) ks within o = absurd within
  obeys_size before (t ∷ ts) (x ∷ xs) (l ∷ ls) ks within o =
      let rules = (obeys_first before t ts x xs l ls).0 o in
      (bounded_size t before x l (next_lean ls) ks.0 rules.0.0, obeys_size (Some x) ts xs ls ks.1 within.2 rules.2)
