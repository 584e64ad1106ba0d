-- What is said of each answer.
use Rattle.std.specs.Prelude.{ℕ, List, ◌∷◌, ◌++◌, Ok, Err, vec_items, codes, decimal, Result}
use Rattle.std.specs.Fmt.{signed_decimal}
use Rattle.std.specs.List.{flat_map}
use Rattle.curve.specs.Answers.{refused_text}
use Rattle.slots.specs.Refusals.{refusal_number, refusal_slot}
use Rattle.sheet.specs.Faults.{fault_text}
use Rattle.replay.specs.declared.answer.Answer.{Answer}
use Rattle.replay.specs.declared.answer.Answer.TheVariants.{Done, Cost, Planned}
use Rattle.replay.specs.declared.answer.CallFault.{CallFault}
use Rattle.replay.specs.declared.answer.CallFault.TheVariants.{Refused, Unread}

-- a space and a number, for each number
abbrev pub spaced : {X : Type 0} → (X → List ℕ) → List X → List ℕ
spaced write xs = flat_map (λ x. 32 ∷ write x) xs

-- the line that tells an answer
abbrev pub answer_text : Result Answer CallFault → List ℕ
answer_text (Ok Done) = codes "ok"
answer_text (Ok (Cost c)) = codes "cost " ++ signed_decimal c
answer_text (Ok (Planned c levels leans)) =
    codes "cost " ++ (signed_decimal c ++ (codes " levels" ++ (spaced decimal (vec_items levels) ++ (codes " leans" ++ spaced signed_decimal (vec_items leans)))))
answer_text (Err (Refused refusal)) = refused_text (refusal_number refusal) (refusal_slot refusal)
answer_text (Err (Unread fault)) = fault_text fault
