-- Fields that are read one after another, each from the bytes that are left.
use Rattle.std.proofs.Common.{◌≡◌, ℕ, zero, suc, ◌+◌, ◌-◌, ◌*◌, ◌^◌, ◌<◌, ◌≤◌, List, [], ◌∷◌, ◌++◌, length, get_or, take, drop, set, ℤ, sym, refl, ap, ◌∙◌, ap₂, append_assoc, w32, to_z, pow-suc, add-one, mul-one, arith, length-drop, length-take, length-set}
use Rattle.std.proofs.lemmas.Int.Digits.{number_more}
use Rattle.std.proofs.lemmas.List.{drop-drop, take_all, take_more_set, append-nil}
use Rattle.std.specs.Int.{byte_worth, sum_through}
use Rattle.curve.specs.Limits.{knee_limit}
use Rattle.sheet.specs.Fields.{Field, Values, value, number_at, values, width}
use Rattle.sheet.specs.Kinds.{knee_fields}
use Rattle.sheet.specs.Numbers.{number}
use Rattle.sheet.specs.SlotFields.{knee_levels, knee_steps}

worth : (i b : ℕ) → byte_worth i b ≡ b * 256 ^ i
worth zero b = omega arith
worth (suc i) b = refl

spread : (n b p : ℕ) → n * (p * 256) + b * p ≡ (n * 256 + b) * p
spread n b p = grind arith

-- the first bytes of several are worth the number that they write, before so many others
first_worth : (bs : List ℕ) (n k : ℕ) → k ≤ n → n < length bs → sum_through (λ i. byte_worth (n - i) (get_or bs i 0)) k ≡ number (take (k + 1) bs) * 256 ^ (n - k)
unfolding number
first_worth bs n zero within long =
    let first : number (take 1 bs) ≡ get_or bs 0 0 = number_more 256 bs 0 (omega arith) ∙ omega arith in
    worth (n - 0) (get_or bs 0 0) ∙ ap (λ (m : ℕ). m * 256 ^ (n - 0)) (sym first)
first_worth bs n (suc k) within long =
    let b : ℕ = get_or bs (suc k) 0 in
    let p : ℕ = 256 ^ (n - suc k) in
    let one : n - k ≡ suc (n - suc k) = omega arith in
    let power : 256 ^ (n - k) ≡ p * 256 = ap (λ (m : ℕ). 256 ^ m) one ∙ pow-suc 256 (n - suc k) in
    let more = number_more 256 bs (suc k) (omega arith) ∙ ap (λ (m : ℕ). number (take m bs) * 256 + b) (sym (add-one k)) in
    ap₂ (λ (x y : ℕ). x + y) (first_worth bs n k (omega arith) long ∙ ap (λ (q : ℕ). number (take (k + 1) bs) * q) power) (worth (n - suc k) b)
    ∙ spread (number (take (k + 1) bs)) b p
    ∙ ap (λ (m : ℕ). m * p) (sym more)

-- all of them write that number
pub bytes_number : (n : ℕ) (bs : List ℕ) → length bs ≡ n + 1 → sum_through (λ i. byte_worth (n - i) (get_or bs i 0)) n ≡ number bs
bytes_number n bs long =
    let none : n - n ≡ 0 = omega arith in
    let all = take_all (n + 1) bs (omega arith) in
    first_worth bs n n (omega arith) (omega arith) ∙ ap (λ (m : ℕ). number (take (n + 1) bs) * 256 ^ m) none ∙ mul-one (number (take (n + 1) bs)) ∙ ap number all

-- a field of so many bytes and one more, where the bytes that are left begin at a place
pub field_number :
    (n place : ℕ) (bytes left body : List ℕ) → left ≡ drop place body → n + 1 ≤ length left → bytes ≡ take (n + 1) left →
    sum_through (λ i. byte_worth (n - i) (get_or bytes i 0)) n ≡ number_at body place (n + 1)
field_number n place bytes left body from within is =
    bytes_number n bytes (rw is (simp length-take (omega arith))) ∙ ap number (is ∙ ap (take (n + 1)) from)

-- the values of fields from the start of bytes on
abbrev pub next_values : (fs : List Field) → List ℕ → Values fs
next_values [] bs = tt
next_values (f ∷ fs) bs = (value f (number (take (width f) bs)), next_values fs (drop (width f) bs))

pub values_next : (fs : List Field) (at : ℕ) (bs : List ℕ) → values fs at bs ≡ next_values fs (drop at bs)
values_next [] at bs = refl
values_next (f ∷ fs) at bs =
    ap (λ (vs : Values fs). (value f (number (take (width f) (drop at bs))), vs)) (values_next fs (at + width f) bs ∙ ap (next_values fs) (sym (drop-drop (width f) at bs)))

-- the values from a place on are those of the bytes that are left there
pub values_left : (fs : List Field) (at : ℕ) (bs left : List ℕ) → left ≡ drop at bs → values fs 0 left ≡ values fs at bs
values_left fs at bs left from = values_next fs 0 left ∙ ap (next_values fs) from ∙ sym (values_next fs at bs)

-- the levels and the steps so far stand before those of the knees that are left
pub record KneesRead (start left levels : List ℕ) (steps : List ℤ) (k : ℕ) : Type 0 where
  pub levels_are : knee_levels knee_limit (next_values (knee_fields knee_limit) start) ≡ take k levels ++ knee_levels (knee_limit - k) (next_values (knee_fields (knee_limit - k)) left)
  pub steps_are : knee_steps knee_limit (next_values (knee_fields knee_limit) start) ≡ take k steps ++ knee_steps (knee_limit - k) (next_values (knee_fields (knee_limit - k)) left)
  pub within : 6 * knee_limit ≤ length left + 6 * k
  pub many_levels : length levels ≡ knee_limit
  pub many_steps : length steps ≡ knee_limit

-- one knee more
pub knee_read :
    (start left after levels : List ℕ) (steps : List ℤ) (k level : ℕ) (step : ℤ) → k < knee_limit →
    level ≡ number_at left 0 2 → step ≡ to_z w32 (number_at left 2 4) → after ≡ drop 4 (drop 2 left) →
    KneesRead start left levels steps k → KneesRead start after (set levels k level) (set steps k step) (k + 1)
knee_read start left after levels steps k level step few is_level is_step behind read =
    let many : ℕ = knee_limit - (k + 1) in
    let one : knee_limit - k ≡ suc many = omega arith in
    let others = next_values (knee_fields many) (drop 4 (drop 2 left)) in
    let gone = ap length behind ∙ length-drop 4 (drop 2 left) ∙ ap (λ (n : ℕ). n - 4) (length-drop 2 left) in
    record {
      levels_are =
          rw (behind, take_more_set levels k level (omega (arith, read.many_levels)), append_assoc (take k levels) (level ∷ []) (knee_levels many others), is_level)
          (read.levels_are ∙ ap (λ (n : ℕ). take k levels ++ knee_levels n (next_values (knee_fields n) left)) one);
      steps_are =
          rw (behind, take_more_set steps k step (omega (arith, read.many_steps)), append_assoc (take k steps) (step ∷ []) (knee_steps many others), is_step)
          (read.steps_are ∙ ap (λ (n : ℕ). take k steps ++ knee_steps n (next_values (knee_fields n) left)) one);
      within = omega (arith, read.within);
      many_levels = length-set levels k level ∙ read.many_levels;
      many_steps = length-set steps k step ∙ read.many_steps;
    }

-- all knees of the bytes from a place on
module _ (start left levels body : List ℕ) (steps : List ℤ) (place : ℕ) (from : start ≡ drop place body) (read : KneesRead start left levels steps knee_limit) where
  all_values : next_values (knee_fields knee_limit) start ≡ values (knee_fields knee_limit) place body
  all_values = ap (next_values (knee_fields knee_limit)) from ∙ sym (values_next (knee_fields knee_limit) place body)

  pub levels_read : levels ≡ knee_levels knee_limit (values (knee_fields knee_limit) place body)
  levels_read = sym (sym (ap (knee_levels knee_limit) all_values) ∙ read.levels_are ∙ append-nil (take knee_limit levels) ∙ take_all knee_limit levels (omega (arith, read.many_levels)))

  pub steps_read : steps ≡ knee_steps knee_limit (values (knee_fields knee_limit) place body)
  steps_read = sym (sym (ap (knee_steps knee_limit) all_values) ∙ read.steps_are ∙ append-nil (take knee_limit steps) ∙ take_all knee_limit steps (omega (arith, read.many_steps)))
