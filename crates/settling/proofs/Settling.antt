-- The evening of a series as the code goes about it: the outcome of exercise, then expiry.
use mathlib.Core.Path.{◌≡◌, refl, sym, ap, ◌∙◌}
use mathlib.Core.Bool.{Bool, true, false}
use mathlib.Core.List.{List}
use Prim.Native.Nat.{ℕ}
use lib.IntN.{ℤ, pos, ◌+ℤ◌}
use lib.ListN.{replicate}
use Rattle.choice.specs.Choice.{choose}
use Rattle.choice.proofs.Chain.{past}
use Rattle.places.specs.Places.{places, amount, flag}
use Rattle.exercise.specs.Evening.{outcome}
use Rattle.exercise.specs.Interest.{held_in_all}
use Rattle.exercise.specs.declared.types.Outcome.{Outcome}
use Rattle.exercise.proofs.Session.{arisen_within}
use Rattle.integer.specs.Bounds.{Bounded}
use Rattle.integer.proofs.Bounds.{bounded_table}
use Rattle.integer.specs.Table.{at, table}
use Rattle.integer.proofs.Table.{table_ext, get_or_table, replicate_table}
use Rattle.terms.specs.Bounds.{max_position}
use Rattle.series.specs.Changes.{fixing_of, closing, new_futures}
use Rattle.series.specs.Good.{GoodSeries}
use Rattle.series.specs.Series.{last_day}
use Rattle.series.specs.declared.state.Series.{Series}
use Rattle.series.proofs.Interest.{left, interest_closed}

module _ (s : Series) (day : ℕ) where
  abbrev pub outcome_of : Outcome
  outcome_of = outcome (fixing_of s day) s.positions s.requests s.declined

  -- what exercise leaves at each place, and 0 on the last day
  pub closed : (l : List ℤ) → l ≡ outcome_of.positions → choose (last_day s day) (replicate places (pos 0)) l ≡ table places (closing s day)
  unfolding outcome choose
  closed l e = rw e (by (last_day s day))
    where
      by : (t : Bool) → choose t (replicate places (pos 0)) (table places (left day s)) ≡ table places (λ k. choose t (pos 0) (left day s k))
      by true = replicate_table places (pos 0)
      by false = refl

  -- the open interest of that
  pub closed_interest : (n : ℕ) → n ≡ outcome_of.open_interest → choose (last_day s day) 0 n ≡ held_in_all (table places (closing s day))
  unfolding outcome choose
  closed_interest n e = by (last_day s day) refl
    where
      by : (t : Bool) → last_day s day ≡ t → choose t 0 n ≡ held_in_all (table places (closing s day))
      by true last = sym (interest_closed day s last)
      by false other = e ∙ ap held_in_all (table_ext places (left day s) (closing s day) (λ k _. past (pos 0) other refl))

  -- futures grow by those that arose
  pub futures_grown : (l : List ℤ) → l ≡ outcome_of.futures
      → table places (λ k. at s.futures k +ℤ at l k) ≡ table places (λ k. at s.futures k +ℤ new_futures s day k)
  unfolding outcome
  futures_grown l e =
      table_ext places _ _ (λ k lt. ap (λ (z : ℤ). at s.futures k +ℤ z) (ap (λ (m : List ℤ). at m k) e ∙ get_or_table places (new_futures s day) k (pos 0) lt))

  pub new_futures_bounded : GoodSeries day s → (l : List ℤ) → l ≡ outcome_of.futures → Bounded max_position l
  unfolding outcome
  new_futures_bounded g l e =
      rw e
      (bounded_table places (new_futures s day)
      (λ k lt. arisen_within places (fixing_of s day) (at s.positions) (amount s.requests) (flag s.declined) g.positions.balance k (g.positions.bounded.each k)))
