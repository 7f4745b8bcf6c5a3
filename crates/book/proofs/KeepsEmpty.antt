-- What holds of every book holds of the empty one.
use mathlib.Core.Path.{◌≡◌, refl, ◌∙◌}
use Prim.Native.Nat.{ℕ, ◌<◌}
use native.Mathlib.Omega.{arith}
use lib.ListN.{get_or-replicate}
use Rattle.integer.proofs.Bounds.{within_pos, bounded_zeros}
use Rattle.integer.proofs.Sum.{at_zeros, sum_ext, sum_0, sum_zeros}
use Rattle.margin.specs.Bounds.{most_in_a_series}
use Rattle.margin.specs.BySeries.{cells}
use Rattle.terms.specs.Bounds.{accounts, series_room}
use Rattle.series.specs.Series.{new_series}
use Rattle.series.proofs.Keeps.{good_new}
use Rattle.book.specs.Good.{Good}
use Rattle.book.specs.State.{empty_book, series_at, no_listing, no_series}
use Rattle.book.proofs.Payments.{none_paid_lem, none_today}

blank : (i : ℕ) → i < series_room → series_at empty_book i ≡ new_series no_listing
blank i lt = get_or-replicate series_room i (new_series no_listing) no_series lt

none : {A : Type 0} (i : ℕ) → i < 0 → A
none i lt = absurd (no lt)
  where
    no : i < 0 → ⊥
    no lt = omega arith

pub good_empty : Good empty_book
good_empty =
    record {
      day = omega arith;
      listed = omega arith;
      trades = omega arith;
      series_long = refl;
      blotter_long = refl;
      paid_long = refl;
      cash_long = refl;
      series = λ i lt. rw (blank i lt) (good_new 0 no_listing);
      tick = λ i lt. none i lt;
      idle = λ i lt _. none i lt;
      unlisted = λ i _ lt. blank i lt;
      blotter = λ k lt. none k lt;
      paid = bounded_zeros most_in_a_series cells;
      paid_in_all = λ a _. rw (none_today empty_book refl a) (within_pos (omega arith));
      fresh = λ _. refl;
      paid_live = λ i a _ _ _. none_paid_lem empty_book refl i a;
      paid_balances = λ i _. sum_ext accounts _ _ (λ a _. none_paid_lem empty_book refl i a) ∙ sum_0 accounts;
      evening_cash = λ a _. rw (at_zeros accounts a, none_today empty_book refl a) (within_pos (omega arith));
      cash_balances = sum_zeros accounts accounts;
    }
