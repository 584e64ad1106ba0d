use Rattle.std.proofs.Common.{◌≡◌, ◌<◌, ◌≤◌, ℕ, ℤ, pos, List, ◌∷◌, length, drop, None, sym, refl, ap, ◌∙◌, ◌++◌, inl, inr, zero-add, add-one, arith, length-drop, w32, SFits, to_z, of_z, lt-ltb, le-ltb, rules}
use Rattle.std.proofs.lemmas.Int.{to_z-of_z}
use Rattle.std.proofs.lemmas.Slice.Zip.{either_empty_from_Zip}
use Rattle.std.specs.Iterator.Adapters.{enumerate_source, enumerate_count}
use Rattle.sheet.specs.SlotFields.{used}
use Rattle.sheet.specs.Numbers.{big_endian}
use Rattle.sheet.proofs.KneeValues.{first_drop, next_drop}
use Rattle.sheet.proofs.Overwriting.{puts_then, puts_as, puts_number}
use Rattle.sheet.proofs.RecordBytes.{knee_bytes, knees_bytes, knee_more, length_knees}
use Rattle.sheet.proofs.write.put_knees.Goals as goal
use Rattle.sheet.proofs.write.put_knees.Goals.{then-k-count, else-k-count}

-- where an element is left, the place is within the list
one_left : {X : Type 0} (xs rest : List X) (k : ℕ) (x : X) → drop k xs ≡ x ∷ rest → k < length xs
one_left xs rest k x e = let size = simp length-drop at (ap length e) in omega arith

pub put-requires : goal.put-requires
put-requires c =
    let k = enumerate_count c.loop-k.k-iterator in
    let done = length_knees c.args.count c.args.levels.now c.args.steps.now k 0 in
    let inv = c.loop-k.invariant in
    let more = one_left c.args.levels.now _ k _ (sym inv.levels ∙ c.in-Some.ensures.steps.0.0) in
    omega (arith, c.requires, inv.bytes.place, inv.bytes.size)

pub put-requires-in-loop-k : goal.put-requires-in-loop-k
put-requires-in-loop-k c =
    let k = enumerate_count c.loop-k.k-iterator in
    let done = length_knees c.args.count c.args.levels.now c.args.steps.now k 0 in
    let inv = c.loop-k.invariant in
    let more = one_left c.args.levels.now _ k _ (sym inv.levels ∙ c.in-Some.ensures.steps.0.0) in
    let written : length c.to_be_bytes.result ≡ 2 = rw c.to_be_bytes.ensures in
    omega (arith, c.requires, inv.bytes.place, inv.bytes.size, c.put.ensures.place, c.put.ensures.size)

pub loop-k-preserved : goal.loop-k-preserved
loop-k-preserved c =
    let count = c.args.count in
    let k = enumerate_count c.loop-k.k-iterator in
    let levels = c.args.levels.now in
    let steps = c.args.steps.now in
    let inv = c.loop-k.invariant in
    let turn = c.in-Some.ensures.steps in
    let at_level = sym inv.levels ∙ turn.0.0 in
    let at_step = sym inv.steps ∙ turn.0.1 in
    let within = one_left levels _ k _ at_level in
    let level_is = first_drop levels k _ _ 0 at_level in
    let step_is = first_drop steps k _ _ (pos 0) at_step in
    let level : c.if-k-count.level.0 ≡ used count k levels 0 =
    elim c.if-k-count.branch [
      | then-k-count w ↦ let t = lt-ltb k count (omega (arith, turn.1, w.if-k-count.true)) in ap (λ (p : ℕ × ℤ). p.0) w.level-is ∙ rw (t, level_is)
      | else-k-count w ↦ let t = le-ltb k count (omega (arith, turn.1, w.if-k-count.false)) in ap (λ (p : ℕ × ℤ). p.0) w.level-is ∙ rw t
    ]
    in
    let step : to_z w32 (of_z w32 c.if-k-count.level.1) ≡ used count k steps (pos 0) =
    elim c.if-k-count.branch [
      | then-k-count w ↦
          let t = lt-ltb k count (omega (arith, turn.1, w.if-k-count.true)) in
          let fits : SFits w32 c.in-Some.step.now = search rules in
          ap (λ (p : ℕ × ℤ). to_z w32 (of_z w32 p.1)) w.level-is ∙ ap (λ (z : ℤ). to_z w32 (of_z w32 z)) (to_z-of_z w32 _ fits) ∙ to_z-of_z w32 _ fits ∙ rw (t, step_is)
      | else-k-count w ↦ let t = le-ltb k count (omega (arith, turn.1, w.if-k-count.false)) in ap (λ (p : ℕ × ℤ). to_z w32 (of_z w32 p.1)) w.level-is ∙ rw t
    ]
    in
    let first = puts_as (puts_number 2 _ c.put.ensures c.to_be_bytes.ensures) (ap (big_endian 2) level) in
    let second = puts_as (puts_number 4 _ c.put-in-loop-k.ensures c.to_be_bytes-in-loop-k.ensures) (ap (λ (z : ℤ). big_endian 4 (of_z w32 z)) step) in
    let next = knee_more count levels steps k 0 ∙ ap (λ (n : ℕ). knees_bytes count levels steps k 0 ++ knee_bytes count levels steps n) (zero-add k) in
    let more = puts_as (puts_then inv.bytes (puts_then first second)) (sym next) in
    rw (turn.2, add-one k) (record {
      bytes = more;
      levels = sym (next_drop levels k _ _ at_level);
      steps = sym (next_drop steps k _ _ at_step);
      within = omega arith;
    })

pub returns : goal.returns
returns c =
    let k = enumerate_count c.loop-k.k-iterator in
    let inv = c.loop-k.invariant in
    let over = either_empty_from_Zip (enumerate_source c.loop-k.k-iterator) (enumerate_source c.next.new.self) None refl c.in-None.ensures.steps.0 in
    let past : 6 ≤ k =
    elim over [
      | inl none ↦ let size = simp length-drop at (ap length (sym inv.levels ∙ none)) in omega arith
      | inr none ↦ let size = simp length-drop at (ap length (sym inv.steps ∙ none)) in omega arith
    ]
    in
    let all : k ≡ 6 = omega (arith, inv.within) in
    rw all at inv.bytes
