-- A session goes through the listed series one by one: the first i are as it leaves them and have their margin, the others are as they
-- were and have what their trades cost.
use mathlib.Core.Path.{◌≡◌, refl, sym, ap, ◌∙◌}
use mathlib.Core.Bool.{not}
use mathlib.Core.List.{List}
use Prim.Native.Nat.{ℕ, ◌+◌, ◌≤◌, ◌<◌}
use native.Mathlib.Omega.{arith}
use lib.IntN.{ℤ}
use lib.ListN.{get_or}
use Rattle.choice.specs.Choice.{choose}
use Rattle.integer.proofs.Table.{Updated, updated_start, updated_next, updated_rest, get_or_table}
use Rattle.margin.specs.BySeries.{by_series, in_series}
use Rattle.margin.specs.Margin.{trades_cost, CostsIn}
use Rattle.margin.proofs.BySeries.{Holds}
use Rattle.series.specs.Series.{expired}
use Rattle.series.specs.declared.state.Series.{Series}
use Rattle.terms.specs.Bounds.{series_room}
use Rattle.book.specs.Good.{Good}
use Rattle.book.specs.Sessions.{changed}
use Rattle.book.specs.State.{no_series, series_at, live, with_all_series, with_series}
use Rattle.book.specs.declared.state.Book.{Book}
use Rattle.book.proofs.Live.{by_listed, by_unlisted}
use Rattle.book.proofs.Margins.{margin_by, margin_from, margins_by, margins_start, costs_in, margins_next, margins_all}
use Rattle.book.proofs.Trades.{coefficients_of}

-- series j as the session leaves it
abbrev left_at : Book → (Series → Series) → ℕ → Series
left_at b change j = choose (live b j) (change (series_at b j)) (series_at b j)

-- a series of its list, as the code has it: changed if it is live
abbrev changed_if : (Series → Series) → ℕ → Series → Series
changed_if change day s = choose (not (expired s day)) (change s) s

pub record Passed (b : Book) (change : Series → Series) (i : ℕ) (now : Book) (margin : List ℤ) : Type 0 where
  pub below : i ≤ b.listed
  pub series : Updated series_room i now.series b.series no_series (left_at b change)
  pub margins : Holds margin (margins_by b (changed b change) i)
  pub rest : now ≡ with_all_series b now.series

module _ (b : Book) (g : Good b) (change : Series → Series) where
  pub passed_none : (l : List ℤ) → l ≡ by_series (λ i a. trades_cost b.blotter b.trades i (get_or (coefficients_of b) i 0) a) → Passed b change 0 b l
  passed_none l e =
      record {
        below = omega arith;
        series = updated_start b.series no_series (left_at b change) g.series_long;
        margins = margins_start b g (changed b change) l e;
        rest = refl;
      }

  -- a series that is listed is one of the array
  pub passed_room : {i : ℕ} → i < b.listed → i < series_room
  passed_room lt = omega (arith, lt, g.listed)

  module _ {i : ℕ} {now : Book} {l : List ℤ} (h : Passed b change i now l) (lt : i < b.listed) where
    -- when its turn comes it is still as it was, and so are its amounts
    pub passed_here : get_or now.series i no_series ≡ series_at b i
    passed_here = h.series.left i (omega arith)

    pub passed_costs : CostsIn i l
    passed_costs = costs_in b g (changed b change) lt h.margins

    module _ (s : Series) (e : s ≡ changed_if change b.day (get_or now.series i no_series)) where
      left_here : s ≡ left_at b change i
      left_here =
          e ∙ ap (changed_if change b.day) passed_here ∙ by_listed b i (change (series_at b i)) (series_at b i) lt

      pub passed_left : s ≡ get_or (changed b change) i no_series
      passed_left = left_here ∙ sym (get_or_table series_room (left_at b change) i no_series (passed_room lt))

      -- its margin, from the series before and after
      pub passed_next : (m : List ℤ)
          → m ≡ choose (not (expired (get_or now.series i no_series) b.day)) (in_series i (margin_from (get_or now.series i no_series) s) l) l
          → Passed b change (i + 1) (with_series now i s) m
      passed_next m q =
          record {
            below = omega arith;
            series = updated_next h.series (passed_room lt) s left_here;
            margins = margins_next b g (changed b change) lt h.margins m (rw (passed_here, passed_left) at q);
            rest = ap (λ (k : Book). with_series k i s) h.rest;
          }

  -- all of them, and those that are not listed, which it leaves
  module _ {i : ℕ} {now : Book} {l : List ℤ} (h : Passed b change i now l) (le : b.listed ≤ i) where
    pub passed_series : now ≡ with_all_series b (changed b change)
    passed_series =
        h.rest
        ∙ ap (with_all_series b) (updated_rest h.series (λ k above _. by_unlisted b k (change (series_at b k)) (series_at b k) (omega arith)))

    pub passed_margin : l ≡ by_series (margin_by b (changed b change))
    passed_margin = margins_all b g (changed b change) (omega (arith, h.below, le)) h.margins
