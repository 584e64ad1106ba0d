-- What it means that a check accepts a plan with leans: the levels lie within the bounds, the leans obey the rules, and the plan is cheapest.
use Rattle.std.proofs.Common.{◌≡◌, ℕ, Bool, true, List, [], ◌∷◌, length, ℤ, Some, None, Option, refl, arith}
use Rattle.std.specs.List.{zip, AllByRecursion}
use Rattle.std.specs.Option.{option_map}
use Rattle.std.proofs.lemmas.Bool.Decides.{nat_tests}
use Rattle.optimum.specs.Plans.{Terms, Within, Cheapest}
use Rattle.optimum.specs.Leans.{Obeys, stands, bounded, follows_move, at_rest}
use Rattle.optimum.specs.Theorems.{Convex}
use Rattle.optimum.proofs.Certificate.{leans_certify, leans_decide}
use Rattle.slots.specs.Judging.{earliest, inside, check_rules, check_refusal}
use Rattle.slots.specs.Refusals.{first_refusal}
use Rattle.slots.specs.declared.refusal.Refusal.{Refusal}
use Rattle.slots.specs.declared.refusal.Refusal.TheVariants.{Outside, Lean, Move, Rest}
use Rattle.slots.proofs.Earliest.{none_mapped, none_from_all, all_from_none}
use Rattle.slots.proofs.WithinBounds.{within_from, within_inside}
use Rattle.optimum.proofs.Lengths.{within_length}

-- where there is no first refusal, there is none at all
no_refusal : (rules : List (Option Refusal)) → first_refusal rules ≡ None → AllByRecursion (λ r. r ≡ None) rules
no_refusal [] e = tt
no_refusal (None ∷ more) e = (refl, no_refusal more e)
no_refusal (Some refusal ∷ more) e = grind arith

-- and where there is none at all, there is no first
refuses_none : (rules : List (Option Refusal)) → AllByRecursion (λ r. r ≡ None) rules → first_refusal rules ≡ None
refuses_none [] none = refl
refuses_none (None ∷ more) none = refuses_none more none.1
refuses_none (Some refusal ∷ more) none = none.0

module _ {X : Type 0} (test : X → Bool) (refusal : ℕ → Refusal) (xs : List X) where
  -- a rule that refuses no place holds at each
  holds : option_map refusal (earliest test xs) ≡ None → AllByRecursion (λ x. test x ≡ true) xs
  holds e = all_from_none test xs (none_mapped refusal (earliest test xs) e)

  -- and a rule that holds at each place refuses none
  refuses : AllByRecursion (λ x. test x ≡ true) xs → option_map refusal (earliest test xs) ≡ None
  refuses pass = rw (none_from_all test xs pass)

module _ (ts : List Terms) (xs : List ℕ) (ls : List ℤ) where
  -- what a check accepts is a plan within the bounds, and the leans obey the rules with it
  pub obeys_from_accepted : check_refusal ts xs ls ≡ None → Within ts xs × Obeys None ts xs ls
  obeys_from_accepted e =
      let none = no_refusal (check_rules ts xs ls) e in
      let count = none.0 in
      let many : (length xs ≡ length ts) × (length ls ≡ length ts) = grind (arith, nat_tests) in (
        within_from ts xs many.0 (holds inside Outside (zip ts xs) none.1.0),
        record {
          one_each = many.1;
          bounds = holds bounded Lean (stands None ts xs ls) none.1.1.0;
          moves = holds follows_move Move (stands None ts xs ls) none.1.1.1.0;
          rests = holds at_rest Rest (stands None ts xs ls) none.1.1.1.1.0;
        },
      )

  -- and a plan within the bounds is accepted with leans that obey the rules with it
  pub accepted_from_obeys : Within ts xs → Obeys None ts xs ls → check_refusal ts xs ls ≡ None
  accepted_from_obeys within obeys =
      let levels = within_length ts xs within in
      let leans = obeys.one_each in
      let inner = refuses inside Outside (zip ts xs) (within_inside ts xs within) in
      let bounds = refuses bounded Lean (stands None ts xs ls) obeys.bounds in
      let moves = refuses follows_move Move (stands None ts xs ls) obeys.moves in
      let rests = refuses at_rest Rest (stands None ts xs ls) obeys.rests in
      refuses_none (check_rules ts xs ls) (grind (arith, nat_tests), (inner, (bounds, (moves, (rests, tt)))))

  module _ (convex : AllByRecursion Convex ts) where
    -- what a check accepts is cheapest
    pub cheapest_from_accepted : check_refusal ts xs ls ≡ None → Cheapest None ts xs
    cheapest_from_accepted none = let kept = obeys_from_accepted none in leans_certify None ts xs ls convex kept.0 kept.1

    -- where the leans obey the rules with some plan, every cheapest plan is accepted with them
    pub accepted_from_cheapest : (ys : List ℕ) → Within ts ys → Obeys None ts ys ls → Cheapest None ts xs → check_refusal ts xs ls ≡ None
    accepted_from_cheapest ys within obeys best =
        accepted_from_obeys best.within ((leans_decide None ts ys xs ls convex within obeys best.within).1 best)
