-- Two passes over the levels of a plan that give leans: the first from the first slot on, the second from the last slot back.
use Rattle.std.proofs.Common.{◌≡◌, ℕ, ◌-◌, ◌<◌, ◌≤◌, cond, ltb, List, [], ◌∷◌, ℤ, pos, ◌+ℤ◌, ◌-ℤ◌, neg_ℤ, arith}
use Rattle.std.specs.Int.{int_max}
use Rattle.std.proofs.lemmas.Bool.Decides.{nat_tests}
use Rattle.optimum.specs.Plans.{Terms}
use Rattle.optimum.specs.Leans.{next_lean}

-- the lean that the first pass gives to slot t at level x, coming from slot t₀ at level u with lean l₀
unfoldable pub forward_lean : Terms → ℕ → ℤ → Terms → ℕ → ℤ
forward_lean t₀ u l₀ t x =
    cond
    (ltb u x)
    (pos t.up)
    (cond (ltb x u) (neg_ℤ (pos t.down)) (cond (ltb t₀.low x) (int_max (neg_ℤ (pos t.down)) (l₀ +ℤ t₀.steps (x - 1))) (neg_ℤ (pos t.down))))

module _ (t₀ : Terms) (u : ℕ) (l₀ : ℤ) (t : Terms) (x : ℕ) where
  -- it is the up toll where the level rises
  pub forward_rise : u < x → forward_lean t₀ u l₀ t x ≡ pos t.up
  unfolding forward_lean
  forward_rise rise = grind (arith, nat_tests)

  -- minus the down toll where it falls
  pub forward_fall : x < u → forward_lean t₀ u l₀ t x ≡ neg_ℤ (pos t.down)
  unfolding forward_lean
  forward_fall fall = grind (arith, nat_tests)

  -- the same where it stays and the slot before could not be lower
  pub forward_lowest : x ≡ u → x ≤ t₀.low → forward_lean t₀ u l₀ t x ≡ neg_ℤ (pos t.down)
  unfolding forward_lean
  forward_lowest stay lowest = grind (arith, nat_tests)

  -- and else no less than the lean before and the step below
  pub forward_stay : x ≡ u → t₀.low < x → forward_lean t₀ u l₀ t x ≡ int_max (neg_ℤ (pos t.down)) (l₀ +ℤ t₀.steps (x - 1))
  unfolding forward_lean
  forward_stay stay lower = grind (arith, nat_tests)

-- the leans of the first pass behind slot t₀ at level u with lean l₀
unfoldable pub forward_from : Terms → ℕ → ℤ → List Terms → List ℕ → List ℤ
forward_from t₀ u l₀ [] xs = []
forward_from t₀ u l₀ (t ∷ ts) [] = []
forward_from t₀ u l₀ (t ∷ ts) (x ∷ xs) = let l : ℤ = forward_lean t₀ u l₀ t x in l ∷ forward_from t x l ts xs

-- the leans of the first pass, where that of the first slot is l
unfoldable pub forward_with : ℤ → List Terms → List ℕ → List ℤ
forward_with l [] xs = []
forward_with l (t ∷ ts) [] = []
forward_with l (t ∷ ts) (x ∷ xs) = l ∷ forward_from t x l ts xs

-- the leans of the first pass: that of the first slot is 0
unfoldable pub forward : List Terms → List ℕ → List ℤ
forward = forward_with (pos 0)

-- the lean that the second pass gives to slot t at level x, where the first gave l and the lean after it is next
unfoldable pub backward_lean : Terms → ℕ → ℤ → ℤ → ℤ
backward_lean t x l next = cond (ltb x t.high) (int_max l (next -ℤ t.steps x)) l

module _ (t : Terms) (x : ℕ) (l next : ℤ) where
  -- below the high level it is raised, so that the step above costs no less than the next lean gains over it
  pub backward_raised : x < t.high → backward_lean t x l next ≡ int_max l (next -ℤ t.steps x)
  unfolding backward_lean
  backward_raised lower = grind (arith, nat_tests)

  -- at the high level it stays
  pub backward_top : t.high ≤ x → backward_lean t x l next ≡ l
  unfolding backward_lean
  backward_top top = grind (arith, nat_tests)

-- the leans of the second pass, from those of the first
unfoldable pub backward : List Terms → List ℕ → List ℤ → List ℤ
backward [] xs ls = []
backward (t ∷ ts) [] ls = []
backward (t ∷ ts) (x ∷ xs) [] = []
backward (t ∷ ts) (x ∷ xs) (l ∷ ls) = let rest : List ℤ = backward ts xs ls in backward_lean t x l (next_lean rest) ∷ rest
