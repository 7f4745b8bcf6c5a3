-- What a session computes from the series that it leaves is what the rule says of the series as they stand: by series, and in all.
use mathlib.Core.Path.{◌≡◌, refl, sym, ap, ◌∙◌}
use mathlib.Core.Bool.{Bool, true, false}
use mathlib.Core.List.{List}
use Prim.Native.Nat.{ℕ, ◌*◌, ◌<◌}
use lib.IntN.{ℤ, pos, ◌+ℤ◌, ◌-ℤ◌}
use lib.ListN.{get_or}
use Rattle.choice.specs.Choice.{choose}
use Rattle.integer.specs.Bounds.{Bounded}
use Rattle.integer.proofs.Bounds.{bounded_table, within_sub}
use Rattle.integer.specs.Table.{at, table}
use Rattle.integer.proofs.Sum.{sum_ext, sum_sub}
use Rattle.integer.proofs.Table.{table_ext, get_or_table}
use Rattle.margin.specs.Bounds.{most_in_a_series}
use Rattle.margin.specs.BySeries.{cell, cells, by_series, in_all}
use Rattle.margin.proofs.BySeries.{cell_below, at_by_series, by_series_ext, bounded_by_series}
use Rattle.places.specs.Places.{Limited}
use Rattle.places.proofs.Places.{of_account_table}
use Rattle.series.specs.Changes.{unmarked, settled, closing}
use Rattle.series.specs.Series.{position_of}
use Rattle.series.specs.declared.state.Series.{Series}
use Rattle.series.proofs.Keeps.{good_settled}
use Rattle.terms.specs.Bounds.{accounts, series_room, max_position}
use Rattle.book.specs.Good.{Good}
use Rattle.book.specs.Sessions.{margin_in, changed, intraday_money_in, evening_margin_in, intraday_paid, intraday_money, evening_money, paid_into}
use Rattle.book.specs.State.{no_series, series_at, live}
use Rattle.book.specs.declared.state.Book.{Book}
use Rattle.book.proofs.KeepsSessions.{each_changed}
use Rattle.book.proofs.Margins.{margin_by}
use Rattle.book.proofs.Money.{evening_margin, intraday_small, evening_margin_small, evening_is_rest}
use Rattle.book.proofs.Revaluation.{choice_small}

-- amounts that a live series is paid
paid_live : (t : Bool) (x y : ℤ) → (t ≡ true → x ≡ y) → choose t x (pos 0) ≡ choose t y (pos 0)
unfolding choose
paid_live true x y e = e refl
paid_live false x y e = refl

-- a live series is as the session leaves it
changed_live : (b : Book) (change : Series → Series) (i : ℕ) → i < series_room → live b i ≡ true
    → get_or (changed b change) i no_series ≡ change (series_at b i)
unfolding choose
changed_live b change i lt e =
    get_or_table series_room (λ i. choose (live b i) (change (series_at b i)) (series_at b i)) i no_series lt ∙ rw e refl

-- ---- by series

-- what is paid for each live series
abbrev pub paid_for : Book → (ℕ → ℕ → ℤ) → ℕ → ℕ → ℤ
paid_for b f i a = choose (live b i) (f i a) (pos 0)

module _ (b : Book) (good : Good b) where
  module _ (after : List Series) (e : after ≡ changed b unmarked) where
    pub unmarked_limited : (i : ℕ) → i < series_room → Limited max_position (get_or after i no_series).positions
    unmarked_limited =
        rw e
        (each_changed b unmarked (λ i s. Limited max_position s.positions) (λ i lt t. (good.series i lt).limited)
        (λ i lt t. (good.series i lt).limited))

    pub intraday_is : by_series (margin_by b after) ≡ by_series (paid_for b (intraday_money_in b))
    unfolding intraday_money_in
    intraday_is =
        by_series_ext _ _ (λ i a room lt. paid_live (live b i) _ _ (λ t.
        ap (λ (s : Series). margin_in b i a (series_at b i).mark.option (position_of s a))
        (ap (λ (l : List Series). get_or l i no_series) e ∙ changed_live b unmarked i room t)))

  module _ (after : List Series) (e : after ≡ changed b (λ s. settled s b.day)) where
    pub settled_limited : (i : ℕ) → i < series_room → Limited max_position (get_or after i no_series).positions
    settled_limited =
        rw e
        (each_changed b (λ s. settled s b.day) (λ i s. Limited max_position s.positions)
        (λ i lt t. (good_settled b.day (series_at b i) (good.series i lt)).limited) (λ i lt t. (good.series i lt).limited))

    pub evening_is : by_series (margin_by b after) ≡ by_series (paid_for b (evening_margin_in b))
    unfolding evening_margin_in
    evening_is =
        by_series_ext _ _ (λ i a room lt. paid_live (live b i) _ _ (λ t.
        ap (λ (s : Series). margin_in b i a (series_at b i).mark.option (position_of s a))
        (ap (λ (l : List Series). get_or l i no_series) e ∙ changed_live b (λ s. settled s b.day) i room t)
        ∙ ap (λ (n : ℤ). margin_in b i a (series_at b i).mark.option n) (of_account_table (closing (series_at b i) b.day) a lt)))

  -- how far from 0 these are, and what is left of the evening's once the intraday session's are taken away
  pub intraday_bounded : Bounded most_in_a_series (by_series (paid_for b (intraday_money_in b)))
  intraday_bounded = bounded_by_series (paid_for b (intraday_money_in b)) (λ i a lt _. choice_small (live b i) _ (intraday_small b good i a lt))

  pub evening_bounded : Bounded most_in_a_series (by_series (paid_for b (evening_margin_in b)))
  evening_bounded = bounded_by_series (paid_for b (evening_margin_in b)) (λ i a lt _. choice_small (live b i) _ (evening_margin_small b good i a lt))

  pub rest_bounded : Bounded (2 * most_in_a_series) (table cells (λ k. at (by_series (paid_for b (evening_margin_in b))) k -ℤ at b.intraday_paid k))
  rest_bounded = bounded_table cells _ (λ k _. within_sub (evening_bounded.each k) (good.paid.each k))

-- ---- added up over the series

module _ (b : Book) (good : Good b) (l : List ℤ) where
  pub intraday_in_all : l ≡ by_series (paid_for b (intraday_money_in b)) → in_all l ≡ table accounts (intraday_money b)
  unfolding intraday_money
  intraday_in_all e =
      table_ext accounts _ _ (λ a lt. sum_ext series_room _ _ (λ i room.
      ap (λ (l : List ℤ). at l (cell i a)) e ∙ at_by_series (paid_for b (intraday_money_in b)) i a room lt))

  -- VM − VM1, series by series
  pub evening_in_all : l ≡ table cells (λ k. at (by_series (paid_for b (evening_margin_in b))) k -ℤ at b.intraday_paid k)
      → in_all l ≡ table accounts (evening_money b)
  evening_in_all e =
      table_ext accounts _ _ (λ a lt.
      sum_ext series_room _ _ (λ i room.
      ap (λ (l : List ℤ). at l (cell i a)) e ∙ get_or_table cells _ (cell i a) (pos 0) (cell_below i a room lt)
      ∙ ap (λ (z : ℤ). z -ℤ intraday_paid b i a) (at_by_series (paid_for b (evening_margin_in b)) i a room lt))
      ∙ sum_sub series_room (λ i. paid_for b (evening_margin_in b) i a) (λ i. intraday_paid b i a)
      ∙ sym (unfold evening_margin in (evening_is_rest b good a lt)))

-- cash and the money of a table, as the code adds them
pub paid_into_lem : (cash : List ℤ) (f : ℕ → ℤ) (money : List ℤ) → money ≡ table accounts f
    → table accounts (λ a. at cash a +ℤ at money a) ≡ paid_into cash f
paid_into_lem cash f money e =
    table_ext accounts _ _ (λ a lt.
    ap (λ (z : ℤ). at cash a +ℤ z) (ap (λ (l : List ℤ). at l a) e ∙ get_or_table accounts f a (pos 0) lt))
