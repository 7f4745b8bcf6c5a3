-- The open interest that a book keeps is what holders have and what writers are short: of every good book, and so after every list of
-- events from an empty one.
use mathlib.Core.Path.{◌≡◌, refl, sym, ap, ◌∙◌}
use mathlib.Core.List as list
use Prim.Native.Nat.{ℕ, ◌≤◌, ◌<◌}
use native.Mathlib.Decide.{dec_lt}
use native.Mathlib.Omega.{arith}
use lib.ListN.{get_or-eq_default}
use Rattle.integer.proofs.NatSum.{sumℕ_none}
use Rattle.places.specs.Places.{places}
use Rattle.terms.specs.Bounds.{series_room}
use Rattle.exercise.specs.Exercise.{held, short}
use Rattle.exercise.specs.Interest.{held_in_all, short_in_all}
use Rattle.exercise.proofs.Interest.{holders_writers, interest_most}
use Rattle.series.specs.declared.state.Series.{Series}
use Rattle.book.specs.Good.{Good}
use Rattle.book.specs.Interest.{open_interest, InterestKept}
use Rattle.book.specs.State.{series_at, position_at, no_series}
use Rattle.book.specs.Step.{after}
use Rattle.book.specs.declared.state.Book.{Book}
use Rattle.book.specs.declared.state.Event.{Event}
use Rattle.book.proofs.Live.{dormant}
use Rattle.book.proofs.Keeps.{good_after}

module _ (b : Book) (g : Good b) where
  -- a number past every series
  past_all : (i : ℕ) → series_room ≤ i → series_at b i ≡ no_series
  past_all i le = get_or-eq_default b.series no_series {n = i} (omega (arith, g.series_long))

  pub none_past_all : (i : ℕ) → series_room ≤ i → (series_at b i).open_interest ≡ 0
  none_past_all i le = ap (λ (s : Series). s.open_interest) (past_all i le)

  pub interest_kept : (i : ℕ) → InterestKept b i
  unfolding held_in_all short_in_all open_interest
  interest_kept i = by (dec_lt i series_room)
    where
      by : Dec (i < series_room) → InterestKept b i
      by (yes lt) =
          let s = g.series i lt in
          record {
            holders = s.interest;
            writers = s.interest ∙ holders_writers (series_at b i).positions s.positions.balance;
            most = omega (arith, s.interest, interest_most (series_at b i).positions s.positions.balance s.limited);
            not_live = λ e. (dormant b g i lt e).interest;
          }
      by (no ge) =
          let e = past_all i (omega (arith, ge)) in
          let none = none_past_all i (omega (arith, ge)) in
          record {
            holders = none ∙ sym (sumℕ_none places (λ k. held (position_at b i k)) (λ k _. rw e refl));
            writers = none ∙ sym (sumℕ_none places (λ k. short (position_at b i k)) (λ k _. rw e refl));
            most = omega (arith, none);
            not_live = λ _. none;
          }

-- after every list of events
pub open_interest_after : (es : list.List Event) (i : ℕ) → InterestKept (after es) i
open_interest_after es i = interest_kept (after es) (good_after es) i
