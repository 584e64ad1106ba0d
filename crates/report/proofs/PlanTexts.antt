-- The text of a plan from its parts.
use Rattle.std.proofs.Common.{◌≡◌, ℕ, ◌+◌, ◌<◌, ◌≤◌, true, List, [], ◌∷◌, ◌++◌, length, get_or, drop, ℤ, Some, None, Option, codes, decimal, sym, ap, ◌∙◌, arith}
use Rattle.std.proofs.lemmas.Bool.Decides.{nat_tests}
use Rattle.std.proofs.lemmas.List.{drop_more}
use Rattle.std.specs.Fmt.{signed_decimal}
use Rattle.std.specs.List.{AllByRecursion}
use Rattle.curve.specs.Limits.{top}
use Rattle.curve.specs.Tests.{and_left, and_right}
use Rattle.optimum.specs.Coldest.{plan}
use Rattle.optimum.specs.Plans.{Terms, Within, price}
use Rattle.slots.specs.SlotTerms.{slot_terms, day_terms}
use Rattle.slots.specs.Slots.{proper, all_proper}
use Rattle.slots.specs.declared.slot.Slot.{Slot}
use Rattle.day.specs.Followed.{first_of, rest_of}
use Rattle.report.specs.Reports.{slot_line, slot_lines, plan_text}

-- no level within the bounds of proper slots is above the warmest
pub within_top : {C : Type 0} (ground : C → ℤ) (steps : C → ℕ → ℤ) (slots : List (Slot C)) (xs : List ℕ) → all_proper slots ≡ true → Within (day_terms ground steps slots) xs → AllByRecursion (λ x. x ≤ top) xs
unfolding Within
within_top ground steps [] [] good within = tt
within_top ground steps [] (x ∷ xs) good within = absurd within
within_top ground steps (s ∷ slots) [] good within = tt
within_top ground steps (s ∷ slots) (x ∷ xs) good within =
    let first = and_left (proper s) (all_proper slots) good in
    let below = within.1 in
    (grind (arith, nat_tests), within_top ground steps slots xs (and_right (proper s) (all_proper slots) good) within.2)

-- the lines from a slot on are its own and those of the slots after it
pub lines_from :
    {C : Type 0} (ground : C → ℤ) (steps : C → ℕ → ℤ) (slots : List (Slot C)) (i : ℕ) (slot : Slot C) (before : Option ℕ) (levels : List ℕ) (level : ℕ) (rest : List ℕ) →
    i < length slots → slot ≡ get_or slots i slot → Some level ≡ first_of levels → rest ≡ rest_of levels →
    slot_lines i (day_terms ground steps (drop i slots)) before levels
    ≡ slot_line i (slot_terms ground steps slot) before level ++ slot_lines (i + 1) (day_terms ground steps (drop (i + 1) slots)) (Some level) rest
lines_from ground steps slots i slot before [] level rest less is next after = cc
lines_from {C} ground steps slots i slot before (x ∷ levels) level rest less is next after =
    let here : drop i slots ≡ slot ∷ drop (i + 1) slots = drop_more slots i slot less ∙ ap (λ (s : Slot C). s ∷ drop (i + 1) slots) (sym is) in
    let same : level ≡ x = cc in
    rw (here, same, after)

-- the first line and the lines of the slots make the text
pub text_made :
    (ts : List Terms) (count : ℕ) (cost : ℤ) (levels head text : List ℕ) → count ≡ length ts → cost ≡ price None ts (plan None ts) → levels ≡ plan None ts →
    head ≡ codes "slots " ++ (decimal count ++ (codes " cost " ++ (signed_decimal cost ++ codes "\n"))) → text ≡ head ++ slot_lines 0 ts None levels → text ≡ plan_text ts
text_made ts count cost levels head text many priced found said more = rw (more, said, found, priced, many)
