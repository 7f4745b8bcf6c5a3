-- What the day's intraday session paid, as the book keeps it by series and account.
use mathlib.Core.Path.{◌≡◌, sym, ap, ◌∙◌}
use mathlib.Core.Bool.{false, not}
use mathlib.Core.List.{List}
use Prim.Native.Nat.{ℕ, ◌<◌, ◌≤◌}
use native.Mathlib.Decide.{dec_lt}
use native.Mathlib.Omega.{arith}
use lib.Dec.{ltb}
use lib.IntN.{ℤ, pos}
use Rattle.choice.specs.Choice.{choose}
use Rattle.integer.proofs.Sum.{at_zeros, sum_ext, sum_0}
use Rattle.integer.specs.Table.{at}
use Rattle.margin.specs.BySeries.{cell, cells}
use Rattle.margin.proofs.BySeries.{at_by_series}
use Rattle.terms.specs.Bounds.{accounts, series_room}
use Rattle.book.specs.Sessions.{intraday_money_in, intraday_money, intraday_paid, paid_today, after_intraday}
use Rattle.book.specs.State.{series_at, live, none_paid}
use Rattle.book.specs.declared.state.Book.{Book}
use Rattle.book.proofs.Live.{live_listed, live_unlisted}

-- ---- nothing paid
pub none_paid_lem : (b : Book) → b.intraday_paid ≡ none_paid → (i a : ℕ) → intraday_paid b i a ≡ pos 0
none_paid_lem b e i a = ap (λ (l : List ℤ). at l (cell i a)) e ∙ at_zeros cells (cell i a)

pub none_today : (b : Book) → b.intraday_paid ≡ none_paid → (a : ℕ) → paid_today b a ≡ pos 0
none_today b e a = sum_ext series_room _ _ (λ i _. none_paid_lem b e i a) ∙ sum_0 series_room

-- ---- after an intraday session: what it paid
module _ (b : Book) where
  pub paid_after : (i a : ℕ) → i < series_room → a < accounts → intraday_paid (after_intraday b) i a ≡ choose (live b i) (intraday_money_in b i a) (pos 0)
  paid_after = at_by_series (λ i a. choose (live b i) (intraday_money_in b i a) (pos 0))

  pub today_after : (a : ℕ) → a < accounts → paid_today (after_intraday b) a ≡ intraday_money b a
  unfolding intraday_money
  today_after a lt = sum_ext series_room _ _ (λ i room. paid_after i a room lt)

-- ---- a series that is not live was not live before, in a book of the same day that had no series more
pub not_live_before : (b c : Book) → c.day ≡ b.day → b.listed ≤ c.listed
    → ((i : ℕ) → i < b.listed → (series_at c i).listing ≡ (series_at b i).listing) → (i : ℕ) → live c i ≡ false → live b i ≡ false
not_live_before b c day listed listing i e = by (dec_lt i b.listed)
  where
    by : Dec (i < b.listed) → live b i ≡ false
    by (yes lt) =
        live_listed b i lt ∙ sym (λ j. not (ltb (listing i lt j).last_day (day j))) ∙ sym (live_listed c i (omega arith)) ∙ e
    by (no ge) = live_unlisted b i (omega arith)
