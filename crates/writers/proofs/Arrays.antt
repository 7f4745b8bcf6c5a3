-- The arrays that `assign` and `evening` work out one from another, and that the last is the outcome.
-- Assumes nothing.
use mathlib.Core.Bool.{Bool}
use mathlib.Core.List.{List}
use mathlib.Core.Path.{◌≡◌, refl, sym, ap, ap₂, ◌∙◌}
use Prim.Native.Nat.{ℕ, ◌-◌, ◌≤◌, ◌<◌}
use native.Mathlib.Nat.{le_trans}
use native.Mathlib.Decide.{dec_lt}
use native.Mathlib.Omega.{arith}
use lib.IntN.{ℤ, pos}
use lib.ListN.{length, get_or-replicate, replicate, get_or-eq_default}
use Rattle.integer.proofs.Absolute.{abs_parts}
use Rattle.integer.specs.Bounds.{Bounded}
use Rattle.integer.specs.Sum.{sumℕ, sum_to}
use Rattle.integer.proofs.NatSum.{sumℕ_ext}
use Rattle.integer.specs.Table.{at, table}
use Rattle.integer.proofs.Table.{length_table, get_or_table, is_table, table_ext}
use Rattle.terms.specs.Bounds.{max_position}
use Rattle.exercise.specs.declared.types.Fixing.{Fixing}
use Rattle.exercise.specs.declared.types.Outcome.{Outcome}
use Rattle.places.specs.Places.{places, amount, flag}
use Rattle.exercise.specs.Exercise.{held, short}
use Rattle.exercise.specs.Assignment.{assigned}
use Rattle.exercise.specs.Interest.{held_in_all, short_in_all}
use Rattle.exercise.specs.Evening.{shrunk, futures, exercised_at, exercised_in_all, assigned_at, remaining, arisen, outcome}
use Rattle.exercise.proofs.Assigning.{assigned_ext, assigned_no_more}
use Rattle.exercise.proofs.Interest.{interest_left}
use Rattle.exercise.proofs.Session.{exercised_no_more, exercised_covered, all_remain, none_arise}

-- an array that is a table has the table's numbers
amount_table : (n : ℕ) (f : ℕ → ℕ) (l : List ℕ) → l ≡ table n f → (k : ℕ) → k < n → amount l k ≡ f k
amount_table n f l e k lt = ap (λ (m : List ℕ). amount m k) e ∙ get_or_table n f k 0 lt

at_most_table : {B n : ℕ} (f : ℕ → ℕ) (l : List ℕ) → l ≡ table n f → ((k : ℕ) → k < n → f k ≤ B) → (k : ℕ) → amount l k ≤ B
at_most_table {B} {n} f l e h k = by (dec_lt k n)
  where
    by : Dec (k < n) → amount l k ≤ B
    by (yes lt) = rw (amount_table n f l e k lt) (h k lt)
    by (no ge) = rw (get_or-eq_default l 0 {n = k} (omega (arith, ap length e ∙ length_table n f))) (omega arith)

-- a bounded position is short, and holds, no more than its bound
short_few : {B : ℕ} (positions : List ℤ) → Bounded B positions → (k : ℕ) → short (at positions k) ≤ B
short_few positions h k = omega (arith, (h.each k).abs, abs_parts (at positions k))

held_few : {B : ℕ} (positions : List ℤ) → Bounded B positions → (k : ℕ) → held (at positions k) ≤ B
held_few positions h k = omega (arith, (h.each k).abs, abs_parts (at positions k))

-- ---- assign

module _ (positions : List ℤ) (shorts : List ℕ) (shorts-is : shorts ≡ table places (λ k. short (at positions k))) where
  shorts_at : (k : ℕ) → k < places → amount shorts k ≡ short (at positions k)
  shorts_at = amount_table places (λ k. short (at positions k)) shorts shorts-is

  pub shorts_in_all : short_in_all positions ≡ sumℕ places (amount shorts)
  unfolding short_in_all
  shorts_in_all = sym (sumℕ_ext places (amount shorts) (λ k. short (at positions k)) shorts_at)

  pub shorts_assigned : (e : ℕ) → table places (assigned places e (amount shorts)) ≡ table places (assigned places e (λ k. short (at positions k)))
  shorts_assigned e =
      table_ext places (assigned places e (amount shorts)) (assigned places e (λ k. short (at positions k)))
      (assigned_ext places e (amount shorts) (λ k. short (at positions k)) shorts_at)

-- ---- evening

module _ (fixing : Fixing) (positions : List ℤ) (requests : List ℕ) (declined : List Bool) (bounded : Bounded max_position positions)
    (xs : List ℕ) (e : ℕ) (xs-is : xs ≡ table places (exercised_at places fixing (at positions) (amount requests) (flag declined)))
    (e-is : e ≡ sumℕ places (amount xs)) where
  abbrev x : ℕ → ℕ
  x = exercised_at places fixing (at positions) (amount requests) (flag declined)

  xs_at : (k : ℕ) → k < places → amount xs k ≡ x k
  xs_at = amount_table places x xs xs-is

  in_all : e ≡ exercised_in_all places fixing (at positions) (amount requests) (flag declined)
  in_all = e-is ∙ sumℕ_ext places (amount xs) x xs_at

  pub exercised_few : (k : ℕ) → amount xs k ≤ max_position
  exercised_few =
      at_most_table x xs xs-is
      (λ k lt. le_trans (exercised_no_more fixing (at positions k) (amount requests k) (flag declined k)) (held_few positions bounded k))

  -- nothing is exercised
  pub nothing_done : length positions ≡ places → e ≡ 0 → (interest : ℕ) → interest ≡ held_in_all positions
      → ◌≡◌ {A = Outcome} (record { positions = positions; futures = replicate places (pos 0); open_interest = interest }) (outcome fixing positions requests declined)
  unfolding outcome
  nothing_done long z interest kept =
      let none : exercised_in_all places fixing (at positions) (amount requests) (flag declined) ≡ 0 = sym in_all ∙ z in
      let same : positions ≡ table places (remaining places fixing (at positions) (amount requests) (flag declined)) =
      is_table places (remaining places fixing (at positions) (amount requests) (flag declined)) positions (pos 0) long
      (λ k lt. sym (all_remain places fixing (at positions) (amount requests) (flag declined) none k lt)) in
      λ i. record {
        positions = same i;
        futures = is_table places (arisen places fixing (at positions) (amount requests) (flag declined)) (replicate places (pos 0)) (pos 0) refl
            (λ k lt. get_or-replicate places k (pos 0) (pos 0) lt ∙ sym (none_arise places fixing (at positions) (amount requests) (flag declined) none k lt)) i;
        open_interest = (kept ∙ ap held_in_all same) i;
      }

  -- no more is exercised than is short, nor than is held
  enough : sum_to places (at positions) ≡ pos 0 → e ≤ sumℕ places (λ k. short (at positions k))
  enough level = omega (arith, in_all, exercised_covered places fixing (at positions) (amount requests) (flag declined) level)

  pub enough_held : sum_to places (at positions) ≡ pos 0 → (interest : ℕ) → interest ≡ held_in_all positions → e ≤ interest
  enough_held level interest kept = omega (arith, in_all, kept, interest_left fixing positions requests declined level)

  module _ (level : sum_to places (at positions) ≡ pos 0) (given : List ℕ) (given_is : given ≡ table places (assigned places e (λ k. short (at positions k)))) where
    pub assigned_few : (k : ℕ) → amount given k ≤ max_position
    assigned_few =
        at_most_table (assigned places e (λ k. short (at positions k))) given given_is
        (λ k lt. le_trans (assigned_no_more places e (λ k. short (at positions k)) (enough level) k) (short_few positions bounded k))

    given_at : (k : ℕ) → k < places → amount given k ≡ assigned_at places fixing (at positions) (amount requests) (flag declined) k
    given_at k lt =
        amount_table places (assigned places e (λ k. short (at positions k))) given given_is k lt
        ∙ ap (λ (m : ℕ). assigned places m (λ j. short (at positions j)) k) in_all

    pub all_done : (r : Outcome)
        → (interest : ℕ) → interest ≡ held_in_all positions
        → r ≡ record {
          positions = table places (λ k. shrunk (at positions k) (amount xs k) (amount given k));
          futures = table places (λ k. futures fixing.option (amount xs k) (amount given k));
          open_interest = interest - e;
        }
        → r ≡ outcome fixing positions requests declined
    unfolding outcome remaining arisen
    all_done r interest kept is = is ∙ (λ i. record {
      positions = table_ext places (λ k. shrunk (at positions k) (amount xs k) (amount given k)) (remaining places fixing (at positions) (amount requests) (flag declined))
          (λ k lt. ap₂ (shrunk (at positions k)) (xs_at k lt) (given_at k lt)) i;
      futures = table_ext places (λ k. futures fixing.option (amount xs k) (amount given k)) (arisen places fixing (at positions) (amount requests) (flag declined))
          (λ k lt. ap₂ (futures fixing.option) (xs_at k lt) (given_at k lt)) i;
      open_interest = left i;
    })
      where
        left : interest - e ≡ held_in_all (table places (remaining places fixing (at positions) (amount requests) (flag declined)))
        left = omega (arith, kept, in_all, interest_left fixing positions requests declined level)
