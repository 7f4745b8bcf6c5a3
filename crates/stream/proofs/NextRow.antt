-- The next row of a buffer where it is an event on one series: steps of the search for it, and what one that is found says.
use mathlib.Core.Path.{◌≡◌, refl, sym, ap, ◌∙◌}
use mathlib.Core.Bool.{Bool, true, false}
use mathlib.Core.List.{List}
use Prim.Native.Nat.{ℕ, ◌+◌, ◌-◌, ◌≤◌, ◌<◌}
use native.Mathlib.Omega.{arith}
use borrow.Author.Tests.{leb-false, le-leb, lt-leb}
use lib.Dec.{leb}
use lib.ListN.{length, take, drop}
use Rattle.choice.specs.Choice.{choose}
use Rattle.choice.proofs.Chain.{hit, past}
use Rattle.terms.specs.Bounds.{series_room}
use Rattle.book.specs.Effects.{series_of}
use Rattle.book.specs.declared.state.Event.{Event}
use Rattle.contract.specs.declared.types.Date.{Date}
use Rattle.rows.specs.Cut.{cut, end_from}
use Rattle.rows.specs.Field.{on_end}
use Rattle.rows.specs.Row.{Row, row_of}
use Rattle.rows.specs.declared.types.Refusal.{Refusal}
use Rattle.rows.proofs.Ends.{row_before, row_fits, next_row}
use Rattle.stream.specs.Rows.{series_row, series_row_at}
use Rattle.stream.specs.declared.types.SeriesRow.{SeriesRow}
use Rattle.std.specs.Prelude.{Option, None, Some, Ok, Err}
use Rattle.std.specs.Option.{unwrap_or}

abbrev pub on_series : ℕ → Event → ℕ → Option SeriesRow
on_series i e next = Some (record { series = i; event = e; next = next })

-- ---- steps of the search
-- a row by what the reader made of it
module _ (r row : Row) (y : Option SeriesRow) (next : ℕ) (p : r ≡ row) where
  pub row_none : (why : Refusal) → r ≡ Err why → y ≡ None → y ≡ series_row row next
  unfolding series_row
  row_none why q f = rw (← p, q) f

  module _ (e : Event) (q : r ≡ Ok e) (i : ℕ) (h : i ≡ series_of e) where
    pub row_on_none : series_room ≤ i → y ≡ None → y ≡ series_row row next
    unfolding series_row
    row_on_none k f = rw (← p, q) (hit _ (le-leb series_room (series_of e) (rw (← h) k)) f)

    pub row_on_series : i < series_room → y ≡ on_series i e next → y ≡ series_row row next
    unfolding series_row
    row_on_series k f = rw (← p, q) (past _ (lt-leb series_room (series_of e) (rw (← h) k)) (f ∙ ap (λ (n : ℕ). on_series n e next) h))

-- ---- what is found
-- a row that ends in the buffer and says an event on this series, and where the row after it starts
pub record Found (calendar : List Date) (s : List ℕ) (from i : ℕ) (e : Event) (next : ℕ) : Type 0 where
  pub row : List ℕ
  pub says : row_of calendar row ≡ Ok e
  pub first : cut (drop from s) ≡ row_before row (cut (drop next s))
  pub later : from < next
  pub within : next ≤ length s
  pub series : i ≡ series_of e
  pub room : i < series_room

other_no : {i next : ℕ} {e : Event} → None ≡ on_series i e next → ⊥
other_no f = let z : ◌≡◌ {A = ℕ} 0 1 = cc in omega arith

pub found : (calendar : List Date) (s : List ℕ) (from : ℕ) {r : Option SeriesRow} → r ≡ series_row_at calendar s from → (i : ℕ) (e : Event) (next : ℕ) → r ≡ on_series i e next
    → Found calendar s from i e next
unfolding series_row_at series_row on_end choose
found calendar s from p i e next q = by_end (end_from s from) refl (sym p ∙ q)
  where
    by_test : (end : ℕ) (event : Event) (t : Bool) → leb series_room (series_of event) ≡ t → end_from s from ≡ Some end
        → row_of calendar (take (end - from) (drop from s)) ≡ Ok event
        → choose t None (on_series (series_of event) event (end + 2)) ≡ on_series i e next → Found calendar s from i e next
    by_test end event true h a b f = absurd (other_no f)
    by_test end event false h a b f =
        let row : Option SeriesRow → SeriesRow = λ o. unwrap_or o (record { series = i; event = e; next = next }) in
        let x : series_of event ≡ i = ap (λ (o : Option SeriesRow). (row o).series) f in
        let y : event ≡ e = ap (λ (o : Option SeriesRow). (row o).event) f in
        let z : end + 2 ≡ next = ap (λ (o : Option SeriesRow). (row o).next) f in
        let fits = row_fits s from (end_from s from) refl end a in
        record {
          row = take (end - from) (drop from s);
          says = b ∙ ap Ok y;
          first = rw (← z) (next_row s from (end_from s from) refl end a);
          later = omega (arith, z, fits.0);
          within = omega (arith, z, fits.1);
          series = rw (← y) (sym x);
          room = rw (← x) (leb-false series_room (series_of event) h);
        }

    by_row : (end : ℕ) (row : Row) → end_from s from ≡ Some end → row_of calendar (take (end - from) (drop from s)) ≡ row
        → series_row row (end + 2) ≡ on_series i e next → Found calendar s from i e next
    by_row end (Ok event) a b f = by_test end event (leb series_room (series_of event)) refl a b f
    by_row end (Err why) a b f = absurd (other_no f)

    by_end : (x : Option ℕ) → end_from s from ≡ x
        → on_end x None (λ (end : ℕ). series_row (row_of calendar (take (end - from) (drop from s))) (end + 2)) ≡ on_series i e next → Found calendar s from i e next
    by_end (Some end) a f = by_row end (row_of calendar (take (end - from) (drop from s))) a refl f
    by_end None a f = absurd (other_no f)
