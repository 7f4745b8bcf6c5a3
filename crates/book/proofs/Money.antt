-- What the sessions pay: how far from 0 it can be, and that over all accounts it adds up to 0.
use mathlib.Core.Path.{◌≡◌, refl, ◌∙◌}
use mathlib.Core.Bool.{Bool, true, false}
use Prim.Native.Nat.{ℕ, ◌+◌, ◌*◌, ◌<◌, ◌≤◌}
use native.Mathlib.Omega.{arith}
use lib.IntN.{ℤ, pos, ◌+ℤ◌, ◌-ℤ◌, -ℤ-+ℤ_cancel}
use Rattle.choice.specs.Choice.{choose}
use Rattle.integer.specs.Bounds.{Within, Bounded}
use Rattle.integer.proofs.Bounds.{within_le, within_add, within_sub, within_sum, bounded_at}
use Rattle.integer.proofs.Ring.{split, ring, ⊖_eq}
use Rattle.integer.specs.Sum.{sum_to}
use Rattle.integer.proofs.Sum.{sum_0, sum_ext, sum_sub, sum_swap}
use Rattle.integer.specs.Table.{at}
use Rattle.margin.specs.Bounds.{most_in_a_series, most_in_a_day, max_cash}
use Rattle.margin.specs.Margin.{cost_in}
use Rattle.margin.proofs.Cost.{cost_in_balances, trades_small, traded_small}
use Rattle.terms.specs.Bounds.{accounts, series_room, max_option_price, max_position}
use Rattle.places.specs.Places.{of_account}
use Rattle.places.proofs.Places.{sum_by_account}
use Rattle.series.specs.Changes.{closing}
use Rattle.series.proofs.Keeps.{closing_of_account, closing_balances, position_of_account}
use Rattle.book.specs.Good.{Good}
use Rattle.book.specs.Sessions.{traded_in, margin_in, intraday_money_in, evening_margin_in, intraday_paid, evening_money_in, over_live, intraday_money, evening_money, paid_today}
use Rattle.book.specs.State.{series_at, trade_at, position, live, cash}
use Rattle.book.specs.declared.state.Book.{Book}
use Rattle.book.proofs.Revaluation.{gain_in, gain_small, gain_balances, choice_small}
use Rattle.book.proofs.Trades.{coefficients_of, margin_is, trades_within, coefficients_within}

-- ---- sums over the accounts

-- amounts that add up to 0 do so where a test decides whether they are paid
pub if_balances : (t : Bool) (n : ℕ) (f : ℕ → ℤ) → sum_to n f ≡ pos 0 → sum_to n (λ a. choose t (f a) (pos 0)) ≡ pos 0
unfolding choose
if_balances true n f h = h
if_balances false n f h = sum_0 n

-- and so do sums of them over the live series
pub over_live_balances : (b : Book) (n : ℕ) (f : ℕ → ℕ → ℤ) → ((i : ℕ) → i < series_room → sum_to n (f i) ≡ pos 0)
    → sum_to n (λ a. over_live b (λ i. f i a)) ≡ pos 0
over_live_balances b n f h =
    sum_swap n series_room (λ a i. choose (live b i) (f i a) (pos 0))
    ∙ sum_ext series_room _ _ (λ i lt. if_balances (live b i) n (f i) (h i lt))
    ∙ sum_0 series_room

-- ---- VM of an account in all series

unfoldable pub evening_margin : Book → ℕ → ℤ
evening_margin b a = over_live b (λ i. evening_margin_in b i a)

-- the evening pays VM − VM1, where nothing was paid for a series that is not live
pub less_paid : (b : Book) (a : ℕ) → ((i : ℕ) → i < series_room → live b i ≡ false → intraday_paid b i a ≡ pos 0)
    → evening_money b a ≡ evening_margin b a -ℤ paid_today b a
unfolding evening_money evening_money_in evening_margin choose
less_paid b a none =
    sum_ext series_room _ _ (λ i lt. by i (live b i) (none i lt))
    ∙ sum_sub series_room (λ i. choose (live b i) (evening_margin_in b i a) (pos 0)) (λ i. intraday_paid b i a)
  where
    by : (i : ℕ) (t : Bool) → (t ≡ false → intraday_paid b i a ≡ pos 0)
        → choose t (evening_margin_in b i a -ℤ intraday_paid b i a) (pos 0) ≡ choose t (evening_margin_in b i a) (pos 0) -ℤ intraday_paid b i a
    by i true e = refl
    by i false e = rw (e refl) refl

module _ (b : Book) (g : Good b) where
  -- what the day's trades cost all accounts
  pub traded_balances : (i : ℕ) → sum_to accounts (traded_in b i) ≡ pos 0
  traded_balances i =
      let c = (series_at b i).mark.coefficient in
      sum_swap accounts b.trades (λ a k. cost_in i c (trade_at b k) a)
      ∙ sum_ext b.trades _ _ (λ k lt. let t = g.blotter k lt in cost_in_balances i c (trade_at b k) t.apart accounts t.buyer t.seller)
      ∙ sum_0 b.trades

  -- ---- variation margin: in one series at price p, and in all
  pub margin_small : (i a p : ℕ) (n : ℤ) → i < series_room → p ≤ max_option_price → Within max_position n → Within most_in_a_series (margin_in b i a p n)
  margin_small i a p n lt k h =
      within_sub (gain_small b.day (series_at b i) (g.series i lt) p k a n h)
      (trades_small b.blotter b.trades g.trades (trades_within b g) i _ (g.series i lt).coefficient a)

  pub margin_balances : (i p : ℕ) (n : ℕ → ℤ) → i < series_room → sum_to accounts n ≡ pos 0 → sum_to accounts (λ a. margin_in b i a p (n a)) ≡ pos 0
  margin_balances i p n lt h =
      sum_sub accounts (λ a. gain_in (series_at b i) a p (n a)) (traded_in b i)
      ∙ rw (gain_balances b.day (series_at b i) (g.series i lt) p n h, traded_balances i) refl

  pub margin_within : (a : ℕ) (p : ℕ → ℕ) (n : ℕ → ℤ) → ((i : ℕ) → i < series_room → p i ≤ max_option_price)
      → ((i : ℕ) → i < series_room → Within max_position (n i)) → Within most_in_a_day (over_live b (λ i. margin_in b i a (p i) (n i)))
  margin_within a p n k h =
      rw (margin_is b g a p n)
      (within_sub
      (within_sum series_room _ (λ i lt. choice_small (live b i) _ (gain_small b.day (series_at b i) (g.series i lt) (p i) (k i lt) a (n i) (h i lt))))
      (traded_small b.blotter (coefficients_of b) b.trades g.trades (trades_within b g) (coefficients_within b g) a))

  -- ---- the intraday session
  pub intraday_small : (i a : ℕ) → i < series_room → Within most_in_a_series (intraday_money_in b i a)
  unfolding intraday_money_in
  intraday_small i a lt = margin_small i a _ _ lt (g.series i lt).option (position_of_account b.day (series_at b i) (g.series i lt) a)

  pub intraday_balances_in : (i : ℕ) → i < series_room → sum_to accounts (intraday_money_in b i) ≡ pos 0
  unfolding intraday_money_in
  intraday_balances_in i lt = margin_balances i _ (position b i) lt (sum_by_account (at (series_at b i).positions) ∙ (g.series i lt).positions.balance)

  pub intraday_within : (a : ℕ) → Within most_in_a_day (intraday_money b a)
  unfolding intraday_money intraday_money_in
  intraday_within a =
      margin_within a (λ i. (series_at b i).mark.option) (λ i. position b i a) (λ i lt. (g.series i lt).option)
      (λ i lt. position_of_account b.day (series_at b i) (g.series i lt) a)

  pub intraday_balances : sum_to accounts (intraday_money b) ≡ pos 0
  unfolding intraday_money
  intraday_balances = over_live_balances b accounts (intraday_money_in b) intraday_balances_in

  -- ---- the evening session
  pub evening_margin_small : (i a : ℕ) → i < series_room → Within most_in_a_series (evening_margin_in b i a)
  unfolding evening_margin_in
  evening_margin_small i a lt = margin_small i a _ _ lt (g.series i lt).option (closing_of_account b.day (series_at b i) (g.series i lt) a)

  pub evening_margin_balances : (i : ℕ) → i < series_room → sum_to accounts (evening_margin_in b i) ≡ pos 0
  unfolding evening_margin_in
  evening_margin_balances i lt =
      margin_balances i (series_at b i).mark.option (of_account (closing (series_at b i) b.day)) lt
      (sum_by_account (closing (series_at b i) b.day) ∙ closing_balances b.day (series_at b i) (g.series i lt))

  pub evening_balances_in : (i : ℕ) → i < series_room → sum_to accounts (evening_money_in b i) ≡ pos 0
  unfolding evening_money_in
  evening_balances_in i lt =
      sum_sub accounts (evening_margin_in b i) (intraday_paid b i) ∙ rw (evening_margin_balances i lt, g.paid_balances i lt) refl

  pub evening_balances : sum_to accounts (evening_money b) ≡ pos 0
  unfolding evening_money
  evening_balances = over_live_balances b accounts (evening_money_in b) evening_balances_in

  pub evening_margin_within : (a : ℕ) → Within most_in_a_day (evening_margin b a)
  unfolding evening_margin evening_margin_in
  evening_margin_within a =
      margin_within a (λ i. (series_at b i).mark.option) (λ i. of_account (closing (series_at b i) b.day) a) (λ i lt. (g.series i lt).option)
      (λ i lt. closing_of_account b.day (series_at b i) (g.series i lt) a)

  -- VM − VM1 of all series
  pub evening_is_rest : (a : ℕ) → a < accounts → evening_money b a ≡ evening_margin b a -ℤ paid_today b a
  evening_is_rest a lt = less_paid b a (λ i room e. g.paid_live i a room lt e)

  pub evening_within : (a : ℕ) → a < accounts → Within (2 * most_in_a_day) (evening_money b a)
  evening_within a lt = rw (evening_is_rest a lt) (within_sub (evening_margin_within a) (g.paid_in_all a lt))

  -- ---- cash
  pub cash_within : (a : ℕ) → a < accounts → Within ((b.day + 1) * most_in_a_day) (cash b a)
  cash_within a lt =
      within_le (rw (-ℤ-+ℤ_cancel (cash b a) (paid_today b a)) at (within_add (g.evening_cash a lt) (g.paid_in_all a lt))) (omega arith)

  pub cash_bounded : Bounded max_cash b.cash
  cash_bounded = bounded_at b.cash g.cash_long (λ a lt. within_le (cash_within a lt) (omega (arith, g.day)))

  -- after the evening, cash is what the days' margins came to
  pub evening_settles : (a : ℕ) → a < accounts → cash b a +ℤ evening_money b a ≡ (cash b a -ℤ paid_today b a) +ℤ evening_margin b a
  evening_settles a lt =
      rw (evening_is_rest a lt, split (cash b a), split (paid_today b a), split (evening_margin b a)) (simp ring (⊖_eq _ _ _ _ (omega arith)))

  pub evening_cash_within : (a : ℕ) → a < accounts → Within ((b.day + 1) * most_in_a_day) (cash b a +ℤ evening_money b a)
  evening_cash_within a lt = rw (evening_settles a lt) (within_le (within_add (g.evening_cash a lt) (evening_margin_within a)) (omega arith))
