-- The answers, with the plan found by the sweep in place of a search, so that they can be computed.
use Rattle.std.proofs.Common.{◌≡◌, ℕ, Bool, true, ◌&&◌, List, [], ◌∷◌, map, pos, None, refl, ap, ap₂}
use Rattle.curve.specs.KneeSteps.{knees_step}
use Rattle.curve.specs.Meaning.{climb, cost}
use Rattle.curve.specs.Pairs.{all_below}
use Rattle.curve.specs.Squares.{square_ground, square_step}
use Rattle.curve.specs.WrittenCurves.{written_ground, written_steps}
use Rattle.curve.specs.declared.written.Written.{Written}
use Rattle.curve.specs.Tests.{and_left, and_right}
use Rattle.curve.specs.WrittenSteps.{written_rising}
use Rattle.optimum.specs.Coldest.{plan}
use Rattle.optimum.specs.Leans.{next_lean, stands, bounded, follows_move, at_rest}
use Rattle.optimum.specs.Plans.{Terms, toll, price}
use Rattle.optimum.proofs.Planned.{plan_walk}
use Rattle.optimum.proofs.Sweep.{joined, first_from, threshold, passed, next_up, next_down, first_level, held, walk}
use Rattle.planner.proofs.Convexity.{all_convex, all_open}
use Rattle.slots.specs.Judging.{earliest}
use Rattle.slots.specs.Slots.{all_proper}
use Rattle.slots.specs.declared.slot.Slot.{Slot}
use Rattle.worked.specs.Table.{table}
use Rattle.worked.specs.Asking.{Asked, the_plan, the_check, the_costs, the_pair, Said, planned, terms, answer}

-- the plan as the sweep finds it
abbrev pub swept : List Terms → List ℕ
swept ts = walk (λ _. pos 0) ts

-- the answers, computed
abbrev pub computed : Asked → Said
computed (the_plan slots) = planned (swept (terms slots)) (price None (terms slots) (swept (terms slots)))
computed (the_check slots xs ls) = answer (the_check slots xs ls)
computed (the_costs c levels) = answer (the_costs c levels)
computed (the_pair c d) = answer (the_pair c d)

-- a day that is asked about keeps the rules for bounds and tolls
abbrev pub fair : Asked → Bool
fair (the_plan slots) = all_proper slots
fair (the_check slots xs ls) = true
fair (the_costs c levels) = true
fair (the_pair c d) = true

swept_is_plan : (slots : List (Slot Written)) → all_proper slots ≡ true → plan None (terms slots) ≡ swept (terms slots)
swept_is_plan slots good =
    plan_walk
    (terms slots)
    (all_convex written_ground written_steps (λ c v within. written_rising c v) slots good)
    (all_open written_ground written_steps slots good)

-- the computed answer is the answer
pub same : (e : Asked) → fair e ≡ true → answer e ≡ computed e
same (the_plan slots) good = ap (λ (xs : List ℕ). planned xs (price None (terms slots) xs)) (swept_is_plan slots good)
same (the_check slots xs ls) good = refl
same (the_costs c levels) good = refl
same (the_pair c d) good = refl

-- and so for a whole table, where each day in it is fair
abbrev pub all_fair : List (Asked × Said) → Bool
all_fair [] = true
all_fair (e ∷ table) = fair e.0 && all_fair table

pub all_same : (table : List (Asked × Said)) → all_fair table ≡ true → map (λ e. answer e.0) table ≡ map (λ e. computed e.0) table
all_same [] fairs = refl
all_same (e ∷ table) fairs = ap₂ ◌∷◌ (same e.0 (and_left (fair e.0) (all_fair table) fairs)) (all_same table (and_right (fair e.0) (all_fair table) fairs))

-- the table, computed
pub found : map (λ e. computed e.0) table ≡ map (λ e. e.1) table
unfolding all_below climb cost square_ground square_step knees_step earliest toll price next_lean stands bounded follows_move at_rest joined first_from threshold passed next_up next_down first_level held walk
found = refl
