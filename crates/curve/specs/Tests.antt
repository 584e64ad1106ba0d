-- Tests that pass: both of two, and an order of integers.
use Rattle.std.specs.Prelude.{◌≡◌, ℕ, Bool, true, false, ◌&&◌, T, List, [], ◌∷◌, ℤ, pos, neg_ℤ, ◌≤ℤ◌, None, int_le, refl}
use Rattle.std.proofs.Common.{sym, subst, arith}
use Rattle.std.specs.List.{AllByRecursion}
use Rattle.curve.specs.Answers.{broken}
use Rattle.curve.specs.Limits.{Within, held_by}

pub and_left : (a b : Bool) → (a && b) ≡ true → a ≡ true
and_left true b h = refl
and_left false b h = h

pub and_right : (a b : Bool) → (a && b) ≡ true → b ≡ true
and_right true b h = h
and_right false true h = refl
and_right false false h = h

pub both : {a b : Bool} → a ≡ true → b ≡ true → (a && b) ≡ true
both {a} {b} p q = rw (p, q)

pub le_of_test : (a b : ℤ) → int_le a b ≡ true → a ≤ℤ b
le_of_test a b e = record { le = subst T (sym e) tt }

pub test_of_le : (a b : ℤ) → a ≤ℤ b → int_le a b ≡ true
test_of_le a b h = passes (int_le a b) h.le
  where
    passes : (t : Bool) → T t → t ≡ true
    passes true p = refl
    passes false p = absurd p

-- a number that passes the test lies between the limits
pub bounds_of_held : (limit : ℕ) (z : ℤ) → held_by limit z ≡ true → Within limit z
bounds_of_held limit z held =
    (le_of_test _ _ (and_left (int_le (neg_ℤ (pos limit)) z) (int_le z (pos limit)) held), le_of_test _ _ (and_right (int_le (neg_ℤ (pos limit)) z) (int_le z (pos limit)) held))

-- and what lies between the limits passes it
pub held_of_bounds : (limit : ℕ) (z : ℤ) → Within limit z → held_by limit z ≡ true
held_of_bounds limit z within = both (test_of_le _ _ within.0) (test_of_le _ _ within.1)

-- where no rule is broken, each test passes
pub all_pass : {F : Type 0} (rules : List (Bool × F)) → broken rules ≡ None → AllByRecursion (λ rule. rule.0 ≡ true) rules
all_pass [] e = tt
all_pass (rule ∷ rules) e = split rule.0 refl (all_pass rules)
  where
    split : (t : Bool) → rule.0 ≡ t → (broken rules ≡ None → AllByRecursion (λ rule. rule.0 ≡ true) rules) → (rule.0 ≡ true) × AllByRecursion (λ rule. rule.0 ≡ true) rules
    split true p rest = (p, rest (rw p at e))
    split false p rest = let refused = rw p at e in let z : ◌≡◌ {A = ℕ} 0 1 = cc in absurd (omega arith)
