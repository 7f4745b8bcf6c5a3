-- A session keeps what holds of every book.
use mathlib.Core.Path.{◌≡◌, refl, sym, ◌∙◌}
use mathlib.Core.Bool.{Bool, true, false}
use Prim.Native.Nat.{ℕ, ◌+◌, ◌*◌, ◌≤◌, ◌<◌}
use native.Mathlib.Decide.{dec_lt}
use native.Mathlib.Omega.{arith}
use borrow.Author.Tests.{eq-eqb}
use lib.IntN.{ℤ, pos, ◌+ℤ◌, ◌-ℤ◌, +ℤ_idr, +ℤ-neg_ℤ_cancel}
use lib.ListN.{get_or}
use Rattle.choice.specs.Choice.{choose}
use Rattle.integer.specs.Bounds.{Within}
use Rattle.integer.proofs.Bounds.{within_pos, bounded_zeros}
use Rattle.integer.specs.Table.{at}
use Rattle.integer.specs.Sum.{sum_to}
use Rattle.integer.proofs.Sum.{sum_ext, sum_0, sum_add, sum_table}
use Rattle.integer.proofs.Table.{length_table, get_or_table}
use Rattle.margin.specs.Bounds.{most_in_a_series, most_in_a_day}
use Rattle.margin.specs.BySeries.{cells}
use Rattle.margin.proofs.BySeries.{bounded_by_series}
use Rattle.terms.specs.Bounds.{accounts, series_room}
use Rattle.series.specs.Changes.{unmarked, settled}
use Rattle.series.specs.Good.{GoodSeries}
use Rattle.series.specs.Series.{new_series, last_day}
use Rattle.series.specs.declared.state.Series.{Series}
use Rattle.series.proofs.Interest.{interest_closed}
use Rattle.series.proofs.Keeps.{good_unmarked, good_settled, good_later}
use Rattle.book.specs.Good.{Good, Idle}
use Rattle.book.specs.Sessions.{changed, intraday_money_in, intraday_money, evening_money, paid_today, paid_into, after_intraday, after_evening}
use Rattle.book.specs.State.{series_at, trade_at, live, cash, no_listing, no_series}
use Rattle.book.specs.declared.state.Book.{Book}
use Rattle.book.proofs.Allowed.{CanIntraday, CanEvening}
use Rattle.book.proofs.KeepsEvents.{same_trade}
use Rattle.book.proofs.Live.{live_yes, is_live, false_not_true}
use Rattle.book.proofs.Money.{if_balances, intraday_small, intraday_within, intraday_balances_in, intraday_balances, evening_balances, evening_cash_within}
use Rattle.book.proofs.Payments.{none_paid_lem, none_today, paid_after, today_after, not_live_before}
use Rattle.book.proofs.Revaluation.{choice_small}

-- ---- the series

-- what holds of a live series once it is changed, and of the others as they are, holds of each
pub each_changed : (b : Book) (change : Series → Series) (P : ℕ → Series → Type 0)
    → ((i : ℕ) → i < series_room → live b i ≡ true → P i (change (series_at b i)))
    → ((i : ℕ) → i < series_room → live b i ≡ false → P i (series_at b i))
    → (i : ℕ) → i < series_room → P i (get_or (changed b change) i no_series)
unfolding choose
each_changed b change P p q i lt =
    rw (get_or_table series_room (λ i. choose (live b i) (change (series_at b i)) (series_at b i)) i no_series lt) (by (live b i) refl)
  where
    by : (t : Bool) → live b i ≡ t → P i (choose t (change (series_at b i)) (series_at b i))
    by true e = p i lt e
    by false e = q i lt e

not_paid : (t : Bool) (x : ℤ) → t ≡ false → choose t x (pos 0) ≡ pos 0
unfolding choose
not_paid t x e = rw e refl

module _ (b : Book) (g : Good b) where
  room : (i : ℕ) → i < b.listed → i < series_room
  room i lt = omega (arith, g.listed)

  unlisted_not_live : (i : ℕ) → b.listed ≤ i → live b i ≡ true → ⊥
  unlisted_not_live i le l = omega (arith, (live_yes b i l).listed)

  paid_into_balances : (f : ℕ → ℤ) → sum_to accounts f ≡ pos 0 → sum_to accounts (at (paid_into b.cash f)) ≡ pos 0
  paid_into_balances f e =
      sum_table accounts (λ a. cash b a +ℤ f a) ∙ sum_add accounts (cash b) f ∙ rw (g.cash_balances, e) refl

  -- a series that is not listed is as it was
  still_unlisted : (change : Series → Series) (i : ℕ) → b.listed ≤ i → i < series_room
      → get_or (changed b change) i no_series ≡ new_series no_listing
  still_unlisted change i le lt =
      each_changed b change (λ i s. b.listed ≤ i → s ≡ new_series no_listing)
      (λ i _ l h. absurd (unlisted_not_live i h l)) (λ i r _ h. g.unlisted i h r) i lt le

  -- ---- the intraday session
  pub good_intraday : CanIntraday b → Good (after_intraday b)
  good_intraday c =
      record {
        day = g.day;
        listed = g.listed;
        trades = g.trades;
        series_long = length_table series_room _;
        blotter_long = g.blotter_long;
        paid_long = length_table cells _;
        cash_long = length_table accounts _;
        series =
            each (λ i s. GoodSeries b.day s) (λ i lt _. good_unmarked b.day (series_at b i) (g.series i lt)) (λ i lt _. g.series i lt);
        tick = λ i lt. rw (same_listing i (room i lt)) (g.tick i lt);
        idle = λ i lt.
            each (λ i s. i < b.listed → s.listing.last_day < b.day → Idle s) (λ i _ l _ past. absurd (not_past i l past)) (λ i _ _. g.idle i) i
            (room i lt) lt;
        unlisted = still_unlisted unmarked;
        blotter = λ k lt. same_trade b (after_intraday b) (trade_at b k) refl (omega arith) (λ i l. same_listing i (room i l)) (g.blotter k lt);
        paid = bounded_by_series _ (λ i a lt _. choice_small (live b i) _ (intraday_small b g i a lt));
        paid_in_all = λ a lt. rw (today_after b a lt) (intraday_within b g a);
        fresh = λ e. absurd (false_not_true (sym e));
        paid_live = λ i a lt k e.
            paid_after b i a lt k ∙ not_paid (live b i) (intraday_money_in b i a) (not_live_before b (after_intraday b) refl (omega arith) (λ j l. same_listing j (room j l)) i e);
        paid_balances = λ i lt.
            sum_ext accounts _ _ (λ a k. paid_after b i a lt k) ∙ if_balances (live b i) accounts (intraday_money_in b i) (intraday_balances_in b g i lt);
        evening_cash = unchanged;
        cash_balances = paid_into_balances (intraday_money b) (intraday_balances b g);
      }
    where
      each : (P : ℕ → Series → Type 0) → ((i : ℕ) → i < series_room → live b i ≡ true → P i (unmarked (series_at b i)))
          → ((i : ℕ) → i < series_room → live b i ≡ false → P i (series_at b i)) → (i : ℕ) → i < series_room → P i (series_at (after_intraday b) i)
      each = each_changed b unmarked

      same_listing : (i : ℕ) → i < series_room → (series_at (after_intraday b) i).listing ≡ (series_at b i).listing
      same_listing = each (λ i s. s.listing ≡ (series_at b i).listing) (λ _ _ _. refl) (λ _ _ _. refl)

      not_past : (i : ℕ) → live b i ≡ true → (series_at b i).listing.last_day < b.day → ⊥
      not_past i l past = omega (arith, (live_yes b i l).today)

      -- cash without today's intraday payment is what it was before the session
      unchanged : (a : ℕ) → a < accounts → Within (b.day * most_in_a_day) (cash (after_intraday b) a -ℤ paid_today (after_intraday b) a)
      unchanged a lt =
          rw (get_or_table accounts (λ a. cash b a +ℤ intraday_money b a) a (pos 0) lt, today_after b a lt, +ℤ-neg_ℤ_cancel (cash b a) (intraday_money b a))
          (rw (none_today b (g.fresh c.first) a, +ℤ_idr (cash b a)) at (g.evening_cash a lt))

  -- ---- the evening session
  pub good_evening : CanEvening b → Good (after_evening b)
  good_evening c =
      record {
        day = omega arith;
        listed = g.listed;
        trades = omega arith;
        series_long = length_table series_room _;
        blotter_long = g.blotter_long;
        paid_long = refl;
        cash_long = length_table accounts _;
        series =
            each (λ i s. GoodSeries (b.day + 1) s) (λ i lt _. good_settled b.day (series_at b i) (g.series i lt))
            (λ i lt _. good_later b.day (series_at b i) (g.series i lt));
        tick = λ i lt. rw (same_listing i (room i lt)) (g.tick i lt);
        idle = λ i lt past.
            each (λ i s. i < b.listed → s.listing.last_day < b.day + 1 → Idle s)
            (λ i _ l _ over. record { interest = interest_closed b.day (series_at b i) (last i l over); mark = refl; requests = refl; declined = refl })
            (λ i _ n l _. g.idle i l (expired_before i n l)) i (room i lt) lt past;
        unlisted = still_unlisted (λ s. settled s b.day);
        blotter = λ k lt. absurd (none k lt);
        paid = bounded_zeros most_in_a_series cells;
        paid_in_all = λ a _. rw (none_today (after_evening b) refl a) (within_pos (omega arith));
        fresh = λ _. refl;
        paid_live = λ i a _ _ _. none_paid_lem (after_evening b) refl i a;
        paid_balances = λ i _. sum_ext accounts _ _ (λ a _. none_paid_lem (after_evening b) refl i a) ∙ sum_0 accounts;
        evening_cash = λ a lt. rw (none_today (after_evening b) refl a, +ℤ_idr (cash (after_evening b) a)) (paid a lt);
        cash_balances = paid_into_balances (evening_money b) (evening_balances b g);
      }
    where
      each : (P : ℕ → Series → Type 0) → ((i : ℕ) → i < series_room → live b i ≡ true → P i (settled (series_at b i) b.day))
          → ((i : ℕ) → i < series_room → live b i ≡ false → P i (series_at b i)) → (i : ℕ) → i < series_room → P i (series_at (after_evening b) i)
      each = each_changed b (λ s. settled s b.day)

      same_listing : (i : ℕ) → i < series_room → (series_at (after_evening b) i).listing ≡ (series_at b i).listing
      same_listing = each (λ i s. s.listing ≡ (series_at b i).listing) (λ _ _ _. refl) (λ _ _ _. refl)

      none : (k : ℕ) → k < 0 → ⊥
      none k lt = omega arith

      last : (i : ℕ) → live b i ≡ true → (series_at b i).listing.last_day < b.day + 1 → last_day (series_at b i) b.day ≡ true
      last i l over = eq-eqb b.day (series_at b i).listing.last_day (omega (arith, (live_yes b i l).today))

      expired_before : (i : ℕ) → live b i ≡ false → i < b.listed → (series_at b i).listing.last_day < b.day
      expired_before i n l = by (dec_lt (series_at b i).listing.last_day b.day)
        where
          by : Dec ((series_at b i).listing.last_day < b.day) → (series_at b i).listing.last_day < b.day
          by (yes past) = past
          by (no today) = absurd (false_not_true (sym n ∙ is_live b i (record { listed = l; today = omega arith })))

      paid : (a : ℕ) → a < accounts → Within ((b.day + 1) * most_in_a_day) (cash (after_evening b) a)
      paid a lt = rw (get_or_table accounts (λ a. cash b a +ℤ evening_money b a) a (pos 0) lt) (evening_cash_within b g a lt)
