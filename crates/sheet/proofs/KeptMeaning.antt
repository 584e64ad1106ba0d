-- What a sheet keeps of a curve means what the curve means.
use Rattle.std.proofs.Common.{◌≡◌, ℕ, ◌<◌, min, ◌&&◌, leb, List, [], ◌∷◌, length, get_or, take, ℤ, pos, Option, sym, refl, ap, ◌∙◌, ap₂, zero-add, arith, length-take, lt-ltb}
use Rattle.std.proofs.lemmas.List.{ext_get_or, get_or-take}
use Rattle.std.specs.List.{AllByRecursion}
use Rattle.curve.specs.Answers.{broken}
use Rattle.curve.specs.KneeSteps.{rise_from, never_fall, knees_fault, step_at, knees_step}
use Rattle.curve.specs.Limits.{rate_limit, ground_limit, knee_limit, held_by}
use Rattle.curve.specs.WrittenCurves.{unless}
use Rattle.curve.specs.declared.fault.CurveFault.{CurveFault}
use Rattle.curve.specs.declared.fault.CurveFault.TheVariants.{KneeCount, KneeLevels, KneeSteps, Ground}
use Rattle.curve.specs.declared.written.Written.{Written}
use Rattle.curve.specs.declared.written.Written.TheVariants.{Square, Band, Knees}
use Rattle.sheet.specs.Fields.{Values}
use Rattle.sheet.specs.Kinds.{kind_of_curve, knee_fields}
use Rattle.sheet.specs.SlotFields.{curve_of, curve_values, knee_levels, knee_steps, knee_values, used}
use Rattle.sheet.specs.RoundTrips.{SixKnees, SameMeaning}
use Rattle.sheet.proofs.Holding.{shown_levels, shown_steps, level_at, step_at as step_shown_at}

-- the numbers that count are as they were
counted_same :
    {X : Type 0} (count : ℕ) (xs shown : List X) (nought : X) → length shown ≡ length xs → ((k : ℕ) → k < length xs → get_or shown k nought ≡ used count k xs nought) → take count shown ≡ take count xs
counted_same count xs shown nought long each =
    ext_get_or nought (take count shown) (take count xs) (simp length-take (ap (min count) long)) (λ i within.
    let sizes = simp length-take at within in
    let counts : i < count = omega arith in
    let test = lt-ltb i count counts in
    get_or-take count shown i nought counts ∙ each i (omega arith) ∙ rw test (sym (get_or-take count xs i nought counts)))

-- why no knees curve can be made, by the knees that count
abbrev fault_by : ℤ → ℤ → ℕ → List ℕ → List ℤ → Option CurveFault
fault_by ground first count ls ss =
    broken ((leb 1 count && leb count knee_limit, KneeCount) ∷ (rise_from 0 ls, KneeLevels) ∷ (held_by rate_limit first && never_fall first ss, KneeSteps) ∷ (held_by ground_limit ground, Ground) ∷ [])

pub same_meaning : (c : Written) → SixKnees c → SameMeaning (curve_of (kind_of_curve c) (curve_values c)) c
unfolding knees_step
same_meaning (Square weight target) six = record { fault = refl; ground = refl; steps = λ v. refl }
same_meaning (Band cold warm cold_rate warm_rate) six = record { fault = refl; ground = refl; steps = λ v. refl }
same_meaning (Knees ground first count levels steps) six =
    let ks : Values (knee_fields knee_limit) = knee_values knee_limit 0 count levels steps in
    let ls = knee_levels knee_limit ks in
    let ss = knee_steps knee_limit ks in
    let at_level : (k : ℕ) → k < length levels → get_or ls k 0 ≡ used count k levels 0 = λ k within. level_at count levels steps knee_limit 0 k (omega (arith, six.0)) ∙ ap (λ (n : ℕ). used count n levels 0) (zero-add k) in
    let at_step : (k : ℕ) → k < length steps → get_or ss k (pos 0) ≡ used count k steps (pos 0) = λ k within. step_shown_at count levels steps knee_limit 0 k (omega (arith, six.1)) ∙ ap (λ (n : ℕ). used count n steps (pos 0)) (zero-add k) in
    let same_levels = counted_same count levels ls 0 (shown_levels count levels steps knee_limit 0 ∙ sym six.0) at_level in
    let same_steps = counted_same count steps ss (pos 0) (shown_steps count levels steps knee_limit 0 ∙ sym six.1) at_step in
    let fault : knees_fault ground first count ls ss ≡ knees_fault ground first count levels steps = ap₂ (fault_by ground first count) same_levels same_steps in
    record {
      fault = fault;
      ground = ap (λ (f : Option CurveFault). unless f ground) fault;
      steps = λ v. ap₂ (λ (f : Option CurveFault) (z : ℤ). unless f z) fault (ap₂ (step_at v first) same_levels same_steps);
    }

pub for_all : {X : Type 0} (P : X → Type 0) → ((x : X) → P x) → (xs : List X) → AllByRecursion P xs
for_all P each [] = tt
for_all P each (x ∷ xs) = (each x, for_all P each xs)
