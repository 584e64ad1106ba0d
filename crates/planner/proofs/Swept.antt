-- The sweep after some slots: the table holds the message to the next slot, and the marks of each slot before it are stored.
use Rattle.std.proofs.Common.{◌≡◌, ℕ, ◌+◌, ◌<◌, ◌≤◌, List, [], ◌∷◌, ◌++◌, length, take, set, ℤ, pos, neg_ℤ, ◌≤ℤ◌, sym, refl, append_assoc, add-one, arith, take_all}
use Rattle.std.proofs.lemmas.List.{append-nil, take_more_set}
use Rattle.std.proofs.lemmas.Int.{ints}
use Rattle.optimum.specs.Plans.{Terms}
use Rattle.optimum.specs.Theorems.{Convex, Open}
use Rattle.optimum.proofs.Marks.{Between, Small, Rising, Holds, marks}
use Rattle.optimum.proofs.Messages.{Monotone, passed_tolls}
use Rattle.optimum.proofs.PriceUnder.{next_monotone}
use Rattle.optimum.proofs.Sweep.{next_up, next_down, threshold, passed}
use Rattle.slots.specs.Limits.{toll_limit}

-- of all slots, i are swept and `rest` are not
pub record Swept (all : List Terms) (i : ℕ) (rest : List Terms) (table : List ℤ) (stored : List (List ℕ)) : Type 0 where
  pub message : ℕ → ℤ
  pub holds : Holds rest table message
  pub small : (v : ℕ) → (neg_ℤ (pos toll_limit) ≤ℤ message v) × (message v ≤ℤ pos toll_limit)
  pub rising : Monotone message
  pub so_far : marks (λ _. pos 0) all ≡ take i stored ++ marks message rest

module _ {all : List Terms} where
  -- at first the message is zero
  pub swept_none : {table : List ℤ} {stored : List (List ℕ)} → Holds all table (λ _. pos 0) → Swept all 0 all table stored
  swept_none zeros = record { message = λ _. pos 0; holds = zeros; small = λ _. (omega (arith, ints), omega (arith, ints)); rising = λ _. omega (arith, ints); so_far = refl }

  -- the table is as small as its message, and rises with it
  pub table_small : {i : ℕ} {t : Terms} {rest : List Terms} {table : List ℤ} {stored : List (List ℕ)} → Swept all i (t ∷ rest) table stored → Small toll_limit t.low t.high table
  table_small s v from below = let is = s.holds v from below in let small = s.small v in (omega (arith, ints), omega (arith, ints))

  pub table_rising : {i : ℕ} {t : Terms} {rest : List Terms} {table : List ℤ} {stored : List (List ℕ)} → Swept all i (t ∷ rest) table stored → Rising t.low t.high table
  table_rising s v from below =
      let here = s.holds v from (omega arith) in
      let next = rw add-one at (s.holds (v + 1) (omega arith) below) in
      let up = s.rising v in
      rw add-one (omega (arith, ints))

  -- one slot more: its two marks are its thresholds, and the table holds what it passes on
  pub swept_more :
      {i : ℕ} {t : Terms} {rest : List Terms} {table after : List ℤ} {stored : List (List ℕ)} {up down : ℕ} {mark : List ℕ} →
      Swept all i (t ∷ rest) table stored →
      i < length stored →
      Convex t →
      Open t →
      up ≡ next_up rest →
      down ≡ next_down rest →
      (next_up rest ≤ toll_limit) × (next_down rest ≤ toll_limit) →
      ((message : ℕ → ℤ) → Between t.low t.high table message → mark ≡ threshold message t (neg_ℤ (pos down)) ∷ (threshold message t (pos up) ∷ [])) →
      ((message : ℕ → ℤ) → Between t.low t.high table message → Holds rest after (passed message t (next_up rest) (next_down rest))) →
      Swept all (i + 1) rest after (set stored i mark)
  unfolding marks
  swept_more {i} {t} {rest} {stored = stored} {up} {down} {mark} s room convex opens up_is down_is tolls levels next =
      let message = s.message in
      let found = rw (up_is, down_is) at (levels message s.holds) in
      record {
        message = passed message t (next_up rest) (next_down rest);
        holds = next message s.holds;
        small = λ v. let within = passed_tolls message t (next_up rest) (next_down rest) v in (omega (arith, ints), omega (arith, ints));
        rising = next_monotone message t rest s.rising convex opens;
        so_far = rw (take_more_set stored i mark room, append_assoc, found) s.so_far;
      }

  -- after the last slot all marks are stored
  pub swept_all : {n : ℕ} {table : List ℤ} (stored : List (List ℕ)) → Swept all n [] table stored → length stored ≤ n → stored ≡ marks (λ _. pos 0) all
  unfolding marks
  swept_all {n} stored s whole = sym (rw (append-nil, take_all n stored whole) at s.so_far)
