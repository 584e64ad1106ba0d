-- The steps of a knees curve: where they end, and that they keep the laws.
use Rattle.std.specs.Prelude.{◌≡◌, ℕ, suc, ◌≤◌, true, cond, ◌&&◌, ◌⊎◌, List, [], ◌∷◌, length, take, drop, replicate, ℤ, pos, ◌≤ℤ◌, nat_le, refl}
use Rattle.std.proofs.Common.{◌∙◌, ap₂, inl, inr, arith, length-take, take-take}
use Rattle.std.proofs.lemmas.List.{take-append-le}
use Rattle.std.specs.Int.Signed.{≤ℤ_refl}
use Rattle.std.proofs.lemmas.Int.{ints}
use Rattle.std.proofs.lemmas.Bool.Decides.{nat_tests}
use Rattle.curve.specs.Limits.{Within, held_by, rate_limit, step_limit, knee_limit}
use Rattle.curve.specs.KneeSteps.{step_at, never_fall, kept, knees_step}
use Rattle.curve.specs.Tests.{and_left, and_right, bounds_of_held}

-- past the last knee nothing changes the step
pub step_at_end : (v : ℕ) (first : ℤ) (ls : List ℕ) (ss : List ℤ) → (ls ≡ []) ⊎ (ss ≡ []) → step_at v first ls ss ≡ first
step_at_end v first [] ss e = refl
step_at_end v first (l ∷ ls) [] e = refl
step_at_end v first (l ∷ ls) (s ∷ ss) (inl e) = cc e
step_at_end v first (l ∷ ls) (s ∷ ss) (inr e) = cc e

-- steps that never fall from b on never fall from what lies below b
never_fall_below : (a b : ℤ) (ss : List ℤ) → a ≤ℤ b → never_fall b ss ≡ true → never_fall a ss ≡ true
never_fall_below a b [] h fair = refl
never_fall_below a b (s ∷ ss) h fair = grind (arith, ints, nat_tests)

-- steps never fall from one level to a warmer one
pub step_at_rising : (v w : ℕ) (a b : ℤ) (ls : List ℕ) (ss : List ℤ) → v ≤ w → a ≤ℤ b → never_fall b ss ≡ true → step_at v a ls ss ≤ℤ step_at w b ls ss
step_at_rising v w a b [] ss le h fair = h
step_at_rising v w a b (l ∷ ls) [] le h fair = h
step_at_rising v w a b (l ∷ ls) (s ∷ ss) le h fair =
    let rest : never_fall s ss ≡ true = grind (arith, nat_tests) in
    let up : b ≤ℤ s = grind (arith, ints, nat_tests) in
    let below = never_fall_below b s ss up rest in
    step_at_rising v w (cond (nat_le l v) s a) (cond (nat_le l w) s b) ls ss le (grind (arith, ints, nat_tests)) (grind (arith, nat_tests))

-- steps keep within the limit
pub step_at_held : (v : ℕ) (first : ℤ) (ls : List ℕ) (ss : List ℤ) → held_by rate_limit first ≡ true → never_fall first ss ≡ true → held_by rate_limit (step_at v first ls ss) ≡ true
step_at_held v first [] ss held fair = held
step_at_held v first (l ∷ ls) [] held fair = held
step_at_held v first (l ∷ ls) (s ∷ ss) held fair =
    let rest : never_fall s ss ≡ true = grind (arith, nat_tests) in
    let here : held_by rate_limit s ≡ true = grind (arith, nat_tests) in
    let below = never_fall_below first s ss (grind (arith, ints, nat_tests)) rest in
    step_at_held v (cond (nat_le l v) s first) ls ss (grind (arith, nat_tests)) (grind (arith, nat_tests))

-- the numbers that count are kept
pub take_kept : {X : Type 0} (count : ℕ) (xs : List X) (nought : X) → count ≤ length xs → take count (kept count xs nought) ≡ take count xs
take_kept count xs nought h =
    take-append-le count (take count xs) (drop count (replicate knee_limit nought)) (simp length-take (omega arith)) ∙ take-take count count xs (omega arith)

-- the steps look only at the numbers that count
pub knees_kept : (first : ℤ) (count : ℕ) (levels : List ℕ) (steps : List ℤ) (v : ℕ) → count ≤ length levels → count ≤ length steps → knees_step first count (kept count levels 0) (kept count steps (pos 0)) v ≡ knees_step first count levels steps v
unfolding knees_step
knees_kept first count levels steps v l s = ap₂ (step_at v first) (take_kept count levels 0 l) (take_kept count steps (pos 0) s)

-- steps never fall
pub knees_rising : (first : ℤ) (count : ℕ) (levels : List ℕ) (steps : List ℤ) (v : ℕ) → (held_by rate_limit first && never_fall first (take count steps)) ≡ true → knees_step first count levels steps v ≤ℤ knees_step first count levels steps (suc v)
unfolding knees_step
knees_rising first count levels steps v fair =
    step_at_rising v (suc v) first first (take count levels) (take count steps) (omega arith) (≤ℤ_refl first) (and_right (held_by rate_limit first) _ fair)

-- steps keep within the limit of the laws
pub knees_bounded : (first : ℤ) (count : ℕ) (levels : List ℕ) (steps : List ℤ) (v : ℕ) → (held_by rate_limit first && never_fall first (take count steps)) ≡ true → Within step_limit (knees_step first count levels steps v)
unfolding knees_step
knees_bounded first count levels steps v fair =
    let held = step_at_held v first (take count levels) (take count steps) (and_left (held_by rate_limit first) _ fair) (and_right (held_by rate_limit first) _ fair) in
    let bounds = bounds_of_held rate_limit (step_at v first (take count levels) (take count steps)) held in
    (omega (arith, ints), omega (arith, ints))
