-- The list of all plans: it has each plan within the bounds and no other, cold to warm.
use Rattle.std.proofs.Common.{ℕ, zero, suc, ◌+◌, ◌-◌, ◌<◌, ◌≤◌, List, [], ◌∷◌, ◌++◌, map, refl, ap, arith}
use mathlib.Core.List.Memᴰ
use mathlib.Core.List.{Memᴰ}
use native.Mathlib.Decide.{dec_lt}
use Rattle.std.specs.List.{AllByRecursion}
use Rattle.std.proofs.ByRecursion.{All-append, All-map, All-weaker}
use Rattle.optimum.specs.Plans.{Terms, Within}
use Rattle.optimum.specs.Coldest.{NoWarmer, levels, behind, plans}
use Rattle.optimum.proofs.Search.{Warmer, ColdToWarm}

-- one of n levels from low on
abbrev Among : ℕ → ℕ → ℕ → Type 0
Among low n v = (low ≤ v) × (v < low + n)

-- the levels are among themselves
levels_among : (low n : ℕ) → AllByRecursion (Among low n) (levels low n)
unfolding levels
levels_among low zero = tt
levels_among low (suc n) =
    let rest = All-weaker (Among (suc low) n) (Among low (suc n)) (λ v h. omega arith) (levels (suc low) n) (levels_among (suc low) n) in
    (omega arith, rest)

-- and none is left out
levels_all : (low n v : ℕ) → Among low n v → Memᴰ v (levels low n)
unfolding levels
levels_all low zero v among = absurd (omega arith)
levels_all low (suc n) v among =
    elim (dec_lt low v) [
      | yes later ↦ Memᴰ.tail (levels_all (suc low) n v (omega arith))
      | no here ↦ Memᴰ.head (omega arith)
    ]

-- what holds of each plan behind each level holds of all those plans
behind_each : (P : ℕ → Type 0) (R : List ℕ → Type 0) (vs : List ℕ) (others : List (List ℕ)) →
    ((v : ℕ) → P v → AllByRecursion (λ xs. R (v ∷ xs)) others) → AllByRecursion P vs → AllByRecursion R (behind vs others)
unfolding behind
behind_each P R [] others each all = tt
behind_each P R (v ∷ vs) others each all =
    let here = All-map R (λ xs. v ∷ xs) others (each v all.0) in
    All-append R (map (λ xs. v ∷ xs) others) (behind vs others) here (behind_each P R vs others each all.1)

-- and none is left out
behind_all : {v : ℕ} {vs xs : List ℕ} {others : List (List ℕ)} → Memᴰ v vs → Memᴰ xs others → Memᴰ (v ∷ xs) (behind vs others)
unfolding behind
behind_all {xs = xs} {others} (Memᴰ.head {x = u} {xs = vs} e) member =
    let here = Memᴰ.map (λ (ys : List ℕ). u ∷ ys) member in
    Memᴰ.append_left (behind vs others) (Memᴰ.cast (ap (λ (v : ℕ). v ∷ xs) e) here)
behind_all {others = others} (Memᴰ.tail {x = u} level) member = Memᴰ.append_right (map (λ xs. u ∷ xs) others) (behind_all level member)

-- the plans of the list are within the bounds
pub plans_within : (ts : List Terms) → AllByRecursion (Within ts) (plans ts)
unfolding plans Within
plans_within [] = (tt, tt)
plans_within (t ∷ ts) =
    let n : ℕ = suc t.high - t.low in
    behind_each (Among t.low n) (Within (t ∷ ts)) (levels t.low n) (plans ts)
    (λ v among. All-weaker (Within ts) (λ xs. Within (t ∷ ts) (v ∷ xs)) (λ xs within. (among.0, omega arith, within)) (plans ts) (plans_within ts))
    (levels_among t.low n)

-- and none is left out
pub plans_all : (ts : List Terms) (xs : List ℕ) → Within ts xs → Memᴰ xs (plans ts)
unfolding plans Within
plans_all [] [] within = Memᴰ.head refl
plans_all [] (x ∷ xs) within = absurd within
plans_all (t ∷ ts) [] within = absurd within
plans_all (t ∷ ts) (x ∷ xs) within =
    let among : Among t.low (suc t.high - t.low) x = omega (arith, within.0, within.1) in
    behind_all (levels_all t.low (suc t.high - t.low) x among) (plans_all ts xs within.2)

-- a list from cold to warm, with warmer plans from cold to warm behind it
order_append : (list more : List (List ℕ)) → ColdToWarm list → ColdToWarm more → AllByRecursion (λ xs. AllByRecursion (Warmer xs) more) list → ColdToWarm (list ++ more)
order_append [] more first then warmer = then
order_append (xs ∷ list) more first then warmer =
    (All-append (Warmer xs) list more first.0 warmer.0, order_append list more first.1 then warmer.1)

-- the same level in front of each plan leaves the order
order_same : (v : ℕ) (list : List (List ℕ)) → ColdToWarm list → ColdToWarm (map (λ xs. v ∷ xs) list)
unfolding NoWarmer
order_same v [] order = tt
order_same v (xs ∷ list) order =
    let warmer = All-weaker (Warmer xs) (λ ys. Warmer (v ∷ xs) (v ∷ ys)) (λ ys h no_warmer. h no_warmer.1) list order.0 in
    (All-map (Warmer (v ∷ xs)) (λ ys. v ∷ ys) list warmer, order_same v list order.1)

-- what holds of everything holds of each element
all_any : {X : Type 0} (P : X → Type 0) → ((x : X) → P x) → (xs : List X) → AllByRecursion P xs
all_any P any [] = tt
all_any P any (x ∷ xs) = (any x, all_any P any xs)

-- a plan that begins at a level is somewhere warmer than one that begins below it
behind_warmer : (low n : ℕ) (others : List (List ℕ)) (xs : List ℕ) → AllByRecursion (Warmer (low ∷ xs)) (behind (levels (suc low) n) others)
unfolding NoWarmer
behind_warmer low n others xs =
    behind_each (Among (suc low) n) (Warmer (low ∷ xs)) (levels (suc low) n) others
    (λ v among. all_any (λ ys. Warmer (low ∷ xs) (v ∷ ys)) (λ ys no_warmer. omega (arith, among.0, no_warmer.0)) others)
    (levels_among (suc low) n)

-- rising levels in front of a list from cold to warm leave the order
order_behind : (low n : ℕ) (others : List (List ℕ)) → ColdToWarm others → ColdToWarm (behind (levels low n) others)
unfolding levels behind
order_behind low zero others order = tt
order_behind low (suc n) others order =
    let later : List (List ℕ) = behind (levels (suc low) n) others in
    let warmer = all_any (λ xs. AllByRecursion (Warmer (low ∷ xs)) later) (behind_warmer low n others) others in
    order_append (map (λ xs. low ∷ xs) others) later (order_same low others order) (order_behind (suc low) n others order)
    (All-map (λ xs. AllByRecursion (Warmer xs) later) (λ xs. low ∷ xs) others warmer)

-- the list runs from cold to warm
pub plans_order : (ts : List Terms) → ColdToWarm (plans ts)
unfolding plans
plans_order [] = (tt, tt)
plans_order (t ∷ ts) = order_behind t.low (suc t.high - t.low) (plans ts) (plans_order ts)
