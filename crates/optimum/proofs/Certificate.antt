-- Leans certify a plan that obeys the rules with them: its price is a sum of brackets, and each of them is least.
use Rattle.std.proofs.Common.{◌≡◌, ℕ, List, [], ◌∷◌, ℤ, pos, ◌+ℤ◌, ◌-ℤ◌, Some, Option, arith}
use Rattle.std.specs.List.{AllByRecursion}
use Rattle.std.proofs.lemmas.Int.{ints}
use Rattle.curve.specs.Meaning.{cost}
use Rattle.optimum.specs.Plans.{Terms, Within, price}
use Rattle.optimum.specs.Leans.{Obeys, next_lean}
use Rattle.optimum.specs.Theorems.{Convex, LeansCertify, LeansDecide}
use Rattle.optimum.proofs.Totals.{total, line_slope}
use Rattle.optimum.proofs.LowerBounds.{LowerBound, bound_self, bound_sum, bound_shift}
use Rattle.optimum.proofs.Charges.{Alike, alike_self, line_before, flat_before, move_bracket, move_bound}
use Rattle.optimum.proofs.Stands.{obeys_none}
use Rattle.optimum.proofs.Tolls.{growth_rises, toll_growth, toll_charge}
use Rattle.optimum.proofs.Slots.{slot_bracket, slot_bound}
use Rattle.optimum.proofs.Rules.{obeys_supports}

-- the price of a plan with the line of slope l at the level before
abbrev leaned_price : ℤ → Option ℕ → List Terms → List ℕ → ℤ
leaned_price l b ts xs = price b ts xs +ℤ line_before l b

-- a price is the brackets of its first slot, the price of the slots after it and the ground
price_brackets :
    (l n : ℤ) (b : Option ℕ) (t : Terms) (ts : List Terms) (x : ℕ) (xs : List ℕ) →
    leaned_price l b (t ∷ ts) (x ∷ xs) ≡ move_bracket (toll_growth t) l b x +ℤ slot_bracket t (n -ℤ l) x +ℤ leaned_price n (Some x) ts xs +ℤ t.ground
unfolding price cost total
price_brackets l n b t ts x xs = omega (arith, ints, toll_charge t b x, line_slope n l x)

-- the price of a plan that obeys the rules is a lower bound of every price, and tight only for plans that obey them with the same leans
price_bound :
    (b c : Option ℕ) (ts : List Terms) (xs ys : List ℕ) (ls : List ℤ) → Alike b c → AllByRecursion Convex ts → Within ts xs → Within ts ys → Obeys b ts xs ls →
    LowerBound (Obeys c ts ys ls) (leaned_price (next_lean ls) b ts xs) (leaned_price (next_lean ls) c ts ys)
unfolding Within price next_lean
price_bound b c [] [] [] [] a k p q o = rw (flat_before b, flat_before c) (bound_self (pos 0) (obeys_none c))
price_bound b c [] [] [] (l ∷ ls) a k p q o = absurd (omega (arith, o.one_each))
price_bound b c [] [] (y ∷ ys) ls a k p q o = absurd q
price_bound b c [] (x ∷ xs) ys ls a k p q o = absurd p
price_bound b c (t ∷ ts) [] ys ls a k p q o = absurd p
price_bound b c (t ∷ ts) (x ∷ xs) [] ls a k p q o = absurd q
price_bound b c (t ∷ ts) (x ∷ xs) (y ∷ ys) [] a k p q o = absurd (omega (arith, o.one_each))
price_bound b c (t ∷ ts) (x ∷ xs) (y ∷ ys) (l ∷ ls) a k p q o =
    let n : ℤ = next_lean ls in
    let rules = (obeys_supports b t ts x xs l ls p).0 o in
    let move = move_bound (toll_growth t) (growth_rises t.up t.down) l b c x y a rules.0.0 in
    let slot = slot_bound t k.0 (n -ℤ l) x y p.0 p.1 q.0 q.1 rules.0.1 in
    let rest = price_bound (Some x) (Some y) ts xs ys ls tt k.1 p.2 q.2 rules.1 in
    let here = price_brackets l n b t ts x xs in
    let there = price_brackets l n c t ts y ys in
    bound_shift t.ground here there (obeys_supports c t ts y ys l ls q).1 (bound_sum (bound_sum move slot) rest)

-- a plan that obeys the rules with some leans is cheapest
pub leans_certify : LeansCertify
leans_certify b ts xs ls k p o = record {
  within = p;
  least = λ ys q. omega (arith, ints, (price_bound b b ts xs ys ls (alike_self b) k p q o).bound);
}

-- where some plan obeys the rules with given leans, the plans that do are the cheapest ones
pub leans_decide : LeansDecide
leans_decide b ts xs ys ls k p o q = (
  leans_certify b ts ys ls k q,
  λ best. (price_bound b b ts xs ys ls (alike_self b) k p q o).tight (omega (arith, ints, best.least xs p)),
)
