-- The margin by series and account, as the code goes about it: first what trades cost, then series by series what positions gain less
-- that.
use mathlib.Core.Path.{◌≡◌, refl, sym, ap, ◌∙◌}
use mathlib.Core.Logic.{◌≢◌}
use mathlib.Core.Bool.{Bool, true, false, not}
use mathlib.Core.List.{List}
use Prim.Native.Nat.{ℕ, ◌+◌, ◌<◌}
use native.Mathlib.Decide.{ℕ_discrete, dec_lt}
use native.Mathlib.Omega.{arith}
use lib.Dec.{ltb, eqb}
use lib.IntN.{ℤ, pos}
use lib.ListN.{get_or}
use borrow.Author.Tests.{lt-ltb, le-ltb, eq-eqb, ne_eqb}
use Rattle.choice.specs.Choice.{choose}
use Rattle.integer.specs.Table.{at}
use Rattle.integer.proofs.Table.{length_table, get_or_table}
use Rattle.margin.specs.BySeries.{cell, cells, by_series, in_series}
use Rattle.margin.specs.Margin.{trades_cost, margin_of, CostsIn}
use Rattle.margin.proofs.BySeries.{Holds, holds_table, is_by_series, at_in_series}
use Rattle.margin.proofs.Cost.{trades_small}
use Rattle.places.specs.Places.{of_account}
use Rattle.series.specs.Series.{expired, position_of}
use Rattle.series.specs.declared.state.Series.{Series}
use Rattle.terms.specs.Bounds.{accounts, series_room}
use Rattle.book.specs.Good.{Good}
use Rattle.book.specs.Sessions.{traded_in, margin_in}
use Rattle.book.specs.State.{no_series, series_at, live}
use Rattle.book.specs.declared.state.Book.{Book}
use Rattle.book.proofs.Live.{live_listed, live_unlisted}
use Rattle.book.proofs.Trades.{coefficients_of, trades_within, traded_nothing}

-- ---- the amounts

-- the margin by the series that the session leaves
abbrev pub margin_by : Book → List Series → ℕ → ℕ → ℤ
margin_by b after i a = choose (live b i) (margin_in b i a (series_at b i).mark.option (position_of (get_or after i no_series) a)) (pos 0)

-- a series' margin, in the place of what its trades cost
abbrev pub margin_from : Series → Series → ℕ → ℤ → ℤ
margin_from s next a cost = margin_of s.mark.coefficient (position_of next a) s.mark.option (of_account (at s.opening) a) s.evening_price cost

-- the first i series have their margin, the others what their trades cost
abbrev pub margins_by : Book → List Series → ℕ → ℕ → ℕ → ℤ
margins_by b after i j a = choose (ltb j i) (margin_by b after j a) (traded_in b j a)

-- ---- the loop

module _ (b : Book) (g : Good b) (after : List Series) where
  pub margins_start : (l : List ℤ) → l ≡ by_series (λ i a. trades_cost b.blotter b.trades i (get_or (coefficients_of b) i 0) a)
      → Holds l (margins_by b after 0)
  unfolding choose
  margins_start l e =
      rw e
      (record {
        len = length_table cells _;
        each = λ i a room lt.
            (holds_table (λ i a. trades_cost b.blotter b.trades i (get_or (coefficients_of b) i 0) a)).each i a room lt
            ∙ ap (λ (c : ℕ). trades_cost b.blotter b.trades i c a) (get_or_table series_room (λ i. (series_at b i).mark.coefficient) i 0 room)
            ∙ sym (rw (le-ltb i 0 (omega arith)) refl);
      })

  module _ {l : List ℤ} {i : ℕ} (lt : i < b.listed) (h : Holds l (margins_by b after i)) where
    room : i < series_room
    room = omega (arith, g.listed)

    -- the places of series i still hold what its trades cost
    untouched : (a : ℕ) → a < accounts → at l (cell i a) ≡ traded_in b i a
    unfolding choose
    untouched a la = h.each i a room la ∙ rw (le-ltb i i (omega arith)) refl

    pub costs_in : CostsIn i l
    costs_in =
        record {
          long = h.len;
          series = room;
          each = λ a la. rw (untouched a la) (trades_small b.blotter b.trades g.trades (trades_within b g) i _ (g.series i room).coefficient a);
        }

    pub margins_next : (m : List ℤ)
        → m ≡ choose (not (expired (series_at b i) b.day)) (in_series i (margin_from (series_at b i) (get_or after i no_series)) l) l
        → Holds m (margins_by b after (i + 1))
    unfolding choose
    margins_next m e = by (not (expired (series_at b i) b.day)) (live_listed b i lt) e
      where
        -- the other series are as they were
        other : (j a : ℕ) → j ≢ i → choose (ltb j i) (margin_by b after j a) (traded_in b j a) ≡ margins_by b after (i + 1) j a
        other j a ne = by_below (dec_lt j i)
          where
            by_below : Dec (j < i) → choose (ltb j i) (margin_by b after j a) (traded_in b j a) ≡ margins_by b after (i + 1) j a
            by_below (yes below) = rw (lt-ltb j i below, lt-ltb j (i + 1) (omega arith)) refl
            by_below (no above) = rw (le-ltb j i (omega arith), le-ltb j (i + 1) (omega arith)) refl

        by : (t : Bool) → live b i ≡ t → m ≡ choose t (in_series i (margin_from (series_at b i) (get_or after i no_series)) l) l
            → Holds m (margins_by b after (i + 1))
        by true alive q =
            rw q
            (record {
              len = length_table cells _;
              each = λ j a rj la. at_in_series i (margin_from (series_at b i) (get_or after i no_series)) l j a rj la ∙ here j a rj la (ℕ_discrete j i);
            })
          where
            here : (j a : ℕ) → j < series_room → a < accounts → Dec (j ≡ i)
                → choose (eqb j i) (margin_from (series_at b i) (get_or after i no_series) a (at l (cell j a))) (at l (cell j a)) ≡ margins_by b after (i + 1) j a
            here j a rj la (yes p) = rw (p, eq-eqb i i refl, untouched a la, lt-ltb i (i + 1) (omega arith), alive) refl
            here j a rj la (no ne) = rw (ne_eqb j i ne) (h.each j a rj la ∙ other j a ne)
        by false dead q =
            rw q (record { len = h.len; each = λ j a rj la. h.each j a rj la ∙ here j a (ℕ_discrete j i) })
          where
            here : (j a : ℕ) → Dec (j ≡ i) → margins_by b after i j a ≡ margins_by b after (i + 1) j a
            here j a (yes p) =
                rw (p, le-ltb i i (omega arith), lt-ltb i (i + 1) (omega arith), dead) (traded_nothing b g i (series_at b i).mark.coefficient a dead)
            here j a (no ne) = other j a ne

  -- the series that are not listed have no trades
  pub margins_all : {l : List ℤ} {i : ℕ} → i ≡ b.listed → Holds l (margins_by b after i) → l ≡ by_series (margin_by b after)
  unfolding choose
  margins_all {l} {i} e h = is_by_series (record { len = h.len; each = λ j a room la. h.each j a room la ∙ by j a (dec_lt j i) })
    where
      by : (j a : ℕ) → Dec (j < i) → margins_by b after i j a ≡ margin_by b after j a
      by j a (yes below) = rw (lt-ltb j i below) refl
      by j a (no above) =
          let dead = live_unlisted b j (omega arith) in
          rw (le-ltb j i (omega arith), dead) (traded_nothing b g j (series_at b j).mark.coefficient a dead)
