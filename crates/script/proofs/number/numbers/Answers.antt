use Rattle.std.proofs.Common.{◌≡◌, ℕ, suc, zero, ◌<◌, List, [], ◌∷◌, ◌⊎◌, inl, inr, length, get_or, Some, None, Ok, Err, Option, Result, Vec, vec_items, IfOk, IfErr, refl, arith, rules}
use Rattle.std.proofs.iter.runs.Made.{chains}
use Rattle.script.specs.Answers.{texts, Fails, Says}
use Rattle.script.specs.Words.{each}
use Rattle.script.specs.declared.fault.LineFault.{LineFault}
use Rattle.script.specs.declared.fault.LineFault.TheVariants.{NotACall, NoMemory}
use Rattle.script.proofs.Texts.{Words, no_word, none_then, quiet}
use Rattle.script.proofs.number.numbers.Goals as goal

module _ {X : Type 0} (read : List ℕ → Option X) where
  all_read : (ws : Words) (xs : List X) → length xs ≡ length ws → ((k : ℕ) (d : X) → k < length ws → read (get_or ws k no_word).now ≡ Some (get_or xs k d)) → each read (texts ws) ≡ Some xs
  all_read [] [] long all = refl
  all_read [] (x ∷ xs) long all = absurd (omega (arith, long))
  all_read (w ∷ ws) [] long all = absurd (omega (arith, long))
  all_read (w ∷ ws) (x ∷ xs) long all =
      rw (all 0 x (omega arith), all_read ws xs (omega (arith, long)) (λ k d less. all (suc k) d (omega (arith, less)))) refl

  one_unread : (ws : Words) (i : ℕ) → i < length ws → read (get_or ws i no_word).now ≡ None → each read (texts ws) ≡ None
  one_unread [] i less none = absurd (omega (arith, less))
  one_unread (w ∷ ws) zero less none = rw none refl
  one_unread (w ∷ ws) (suc i) less none =
      quiet (read w.now) _ (λ x. none_then (each read (texts ws)) _ (one_unread ws i (omega (arith, less)) none))

  said : {Z : Type 0} (ws : Words) (r : Result (Vec X Z) LineFault) → IfOk r (λ v. length (vec_items v) ≡ length ws) → IfOk r (λ v. (k : ℕ) (d : X) → k < length ws → read (get_or ws k no_word).now ≡ Some (get_or (vec_items v) k d)) → IfErr r (λ e. (e ≡ NoMemory) ⊎ ((i : ℕ) × (i < length ws) × Fails e (read (get_or ws i no_word).now))) → Says (λ v. vec_items v) r (each read (texts ws))
  said ws (Ok v) long good bad = all_read ws (vec_items v) long good
  said ws (Err NoMemory) long good bad = tt
  said ws (Err NotACall) long good (inl full) = absurd (let z : ◌≡◌ {A = ℕ} 0 1 = cc in omega arith)
  said ws (Err NotACall) long good (inr (i, less, none)) = one_unread ws i less none

pub returns : goal.returns
returns g c = said g.T.Numeral.written c.args.words.now c.try_collect.result (search (rules, chains)) (search (rules, chains)) (search rules)
