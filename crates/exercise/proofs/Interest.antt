-- The open interest of the positions at all places: holders have what writers are short, and exercise takes from it what is exercised.
-- Assumes nothing.
use mathlib.Core.Bool.{Bool}
use mathlib.Core.List.{List}
use mathlib.Core.Path.{◌≡◌, ap}
use Prim.Native.Nat.{ℕ, ◌+◌, ◌*◌, ◌≤◌, ◌<◌}
use native.Mathlib.Omega.{arith}
use lib.IntN.{ℤ, pos, nat_abs}
use lib.ListN.{length, set}
use lib.Seq.{get_or-set_same, get_or-set_other}
use Rattle.integer.proofs.Absolute.{abs_parts}
use Rattle.integer.specs.Bounds.{Bounded}
use Rattle.integer.specs.Sum.{sum_to}
use Rattle.integer.proofs.NatSum.{sumℕ_ext, sumℕ_add, sumℕ_none, sumℕ_but_one, sumℕ_bound, sumℕ_term}
use Rattle.integer.specs.Table.{at, table}
use Rattle.integer.proofs.Table.{get_or_table}
use Rattle.exercise.specs.declared.types.Fixing.{Fixing}
use Rattle.terms.specs.Bounds.{accounts}
use Rattle.places.specs.Places.{places, gross, Limited, amount, flag}
use Rattle.places.proofs.Places.{gross_in_all}
use Rattle.exercise.specs.Exercise.{held, short}
use Rattle.exercise.specs.Evening.{exercised_at, exercised_in_all, remaining}
use Rattle.exercise.specs.Interest.{held_in_all, short_in_all}
use Rattle.exercise.proofs.Sides.{held_within}
use Rattle.exercise.proofs.Session.{balanced, exercised_no_more, remaining_held}

module _ (positions : List ℤ) where
  -- where positions add up to 0
  pub holders_writers : sum_to places (at positions) ≡ pos 0 → held_in_all positions ≡ short_in_all positions
  unfolding held_in_all short_in_all
  holders_writers level = balanced places (at positions) level

  -- one place holds no more than all
  pub one_place_held : (k : ℕ) → k < places → held (at positions k) ≤ held_in_all positions
  unfolding held_in_all
  one_place_held k lt = sumℕ_term places (λ k. held (at positions k)) k lt

  pub interest_within : {B : ℕ} → Bounded B positions → held_in_all positions ≤ places * B
  unfolding held_in_all
  interest_within {B} h = sumℕ_bound places B (λ k. held (at positions k)) (λ k _. held_within (h.each k))

  pub none_held : ((k : ℕ) → k < places → at positions k ≡ pos 0) → held_in_all positions ≡ 0
  unfolding held_in_all
  none_held h = sumℕ_none places (λ k. held (at positions k)) (λ k lt. ap held (h k lt))

  -- another position at place k
  pub interest_set : (k : ℕ) (p : ℤ) → k < length positions → k < places → held_in_all (set positions k p) + held (at positions k) ≡ held_in_all positions + held p
  unfolding held_in_all
  interest_set k p inside lt =
      omega (
        arith,
        sumℕ_but_one places (λ j. held (at (set positions k p) j)) (λ j. held (at positions j)) k lt (λ j ne. ap held (get_or-set_other positions k j p (pos 0) ne)),
        ap held (get_or-set_same positions k p (pos 0) inside),
      )

-- a contract has two sides, so where no account passes a limit there are at most half as many as all accounts' limits
pub interest_most : {B : ℕ} (positions : List ℤ) → sum_to places (at positions) ≡ pos 0 → Limited B positions → 2 * held_in_all positions ≤ accounts * B
unfolding held_in_all short_in_all
interest_most {B} positions level limited =
    omega (
      arith,
      holders_writers positions level,
      sumℕ_add places (λ k. held (at positions k)) (λ k. short (at positions k)),
      sumℕ_ext places (λ k. nat_abs (at positions k)) (λ k. held (at positions k) + short (at positions k)) (λ k _. abs_parts (at positions k)),
      gross_in_all (at positions),
      sumℕ_bound accounts B (gross (at positions)) (λ a _. limited.each a),
    )

-- ---- an evening's exercise
module _ (fixing : Fixing) (positions : List ℤ) (requests : List ℕ) (declined : List Bool) (level : sum_to places (at positions) ≡ pos 0) where
  abbrev x : ℕ → ℕ
  x = exercised_at places fixing (at positions) (amount requests) (flag declined)

  abbrev left : ℕ → ℤ
  left = remaining places fixing (at positions) (amount requests) (flag declined)

  pub interest_left : held_in_all (table places left) + exercised_in_all places fixing (at positions) (amount requests) (flag declined) ≡ held_in_all positions
  unfolding held_in_all
  interest_left =
      omega (
        arith,
        sumℕ_add places (λ k. held (at (table places left) k)) x,
        sumℕ_ext places (λ k. held (at (table places left) k) + x k) (λ k. held (at positions k)) here,
      )
    where
      here : (k : ℕ) → k < places → held (at (table places left) k) + x k ≡ held (at positions k)
      here k lt =
          omega (
            arith,
            ap held (get_or_table places left k (pos 0) lt),
            remaining_held places fixing (at positions) (amount requests) (flag declined) level k,
            exercised_no_more fixing (at positions k) (amount requests k) (flag declined k),
          )
