-- Events on one series while the positions and their open interest stand apart from the book.
use mathlib.Core.Path.{◌≡◌, refl, sym, ap, ◌∙◌}
use mathlib.Core.Bool.{Bool}
use mathlib.Core.List.{List}
use Prim.Native.Nat.{ℕ, ◌+◌, ◌<◌}
use native.Mathlib.Decide.{ℕ_discrete}
use native.Mathlib.Omega.{arith}
use lib.IntN.{ℤ}
use lib.ListN.{length, get_or, set, length-set}
use lib.Seq.{ext_get_or, get_or-set_same, get_or-set_other, set-get_or}
use Rattle.integer.proofs.Table.{length_table, get_or_table, is_table}
use Rattle.margin.specs.declared.trade.Trade as trade_type
use Rattle.terms.specs.Bounds.{series_room}
use Rattle.series.specs.Series.{with_positions, with_requests, with_mark}
use Rattle.series.specs.declared.state.Mark as mark_type
use Rattle.series.specs.declared.state.Series.{Series}
use Rattle.book.specs.Apart.{held_at, taken_out, with_held, put_back, rejoined}
use Rattle.book.specs.Effects.{series_of, next_record, positions_by, interest_by}
use Rattle.book.specs.State.{no_series, series_at, trade_at, with_all_series, with_series, with_blotter}
use Rattle.book.specs.Step.{step_of}
use Rattle.book.specs.declared.state.Answer.{Answer}
use Rattle.book.specs.declared.state.Book.{Book}
use Rattle.book.specs.declared.state.Effect.{Effect}
use Rattle.book.specs.declared.state.Effect.TheVariants as effect
use Rattle.book.specs.declared.state.Event.{Event}
use Rattle.book.specs.declared.state.Held.{Held}
use Rattle.book.specs.declared.state.Step.{Step}
use Rattle.book.proofs.Effects.{effect_at, Parts, step_stored}

-- taken out and put back, the book is as it was
pub put_back_taken : (series : List Series) → length series ≡ series_room → put_back series (taken_out series) ≡ series
put_back_taken series long =
    sym (is_table series_room _ series no_series long
    (λ i lt. ap (with_held (get_or series i no_series)) (sym (get_or_table series_room _ i _ lt))))

pub rejoined_taken : (b : Book) → length b.series ≡ series_room → rejoined b (taken_out b.series) ≡ b
rejoined_taken b long = ap (λ (l : List Series). with_all_series b l) (put_back_taken b.series long)

-- series i, put back
pub series_rejoined : (b : Book) (held : List Held) (i : ℕ) → i < series_room → series_at (rejoined b held) i ≡ with_held (series_at b i) (held_at held i)
series_rejoined b held i lt = get_or_table series_room _ i no_series lt

-- one series, and its positions with their open interest, are stored
module _ (series : List Series) (held : List Held) (i : ℕ) (s : Series) (one : Held) where
  put_back_set : i < length series → i < length held → i < series_room → length series ≡ series_room
      → put_back (set series i s) (set held i one) ≡ set (put_back series held) i (with_held s one)
  put_back_set ls lh lt long =
      ext_get_or no_series _ _ (length_table series_room _ ∙ sym (length-set (put_back series held) i _ ∙ length_table series_room _))
      (λ k lk. by k (omega (arith, lk, length_table series_room (λ j. with_held (get_or (set series i s) j no_series) (held_at (set held i one) j)))) (ℕ_discrete k i))
    where
      by : (k : ℕ) → k < series_room → Dec (k ≡ i) → get_or (put_back (set series i s) (set held i one)) k no_series ≡ get_or (set (put_back series held) i (with_held s one)) k no_series
      by k lk (yes e) =
          get_or_table series_room _ k no_series lk
          ∙ rw (e, get_or-set_same series i s no_series ls, get_or-set_same held i one _ lh, get_or-set_same (put_back series held) i (with_held s one) no_series (omega (arith, lt, length_table series_room (λ j. with_held (get_or series j no_series) (held_at held j)))))
          refl
      by k lk (no ne) =
          get_or_table series_room _ k no_series lk
          ∙ rw (get_or-set_other series i k s no_series ne, get_or-set_other held i k one _ ne, get_or-set_other (put_back series held) i k (with_held s one) no_series ne)
          (sym (get_or_table series_room _ k no_series lk))

-- ---- what an event leaves, stored apart: the parts of series i, the blotter's record k
module _ (b : Book) (held : List Held) (i k : ℕ) (ls : length b.series ≡ series_room) (lh : length held ≡ series_room) (lt : i < series_room) where
  abbrev at_i : List ℤ → ℕ → Held
  at_i p n = record { positions = p; open_interest = n }

  parts_apart : (p : List ℤ) (n : ℕ) (requests : List ℕ) (declined : List Bool) (m : mark_type.Mark) (entry : trade_type.Trade) (trades : ℕ)
      → rejoined (with_blotter (with_series b i (with_mark (with_requests (series_at b i) requests declined) m)) (set b.blotter k entry) trades)
      (set held i (at_i p n))
      ≡ with_blotter (with_series (rejoined b held) i (with_mark (with_requests (with_positions (series_at (rejoined b held) i) p n) requests declined) m)) (set b.blotter k entry) trades
  parts_apart p n requests declined m entry trades =
      ap (λ (l : List Series). with_blotter (with_all_series b l) (set b.blotter k entry) trades)
      (put_back_set b.series held i (with_mark (with_requests (series_at b i) requests declined) m) (at_i p n) (omega (arith, lt, ls)) (omega (arith, lt, lh)) lt ls)
      ∙ ap (λ (s : Series). with_blotter (with_all_series b (set (put_back b.series held) i (with_mark (with_requests (with_positions s p n) requests declined) m))) (set b.blotter k entry) trades)
      (sym (series_rejoined b held i lt))

  module _ (e : Event) (its : i ≡ series_of e) (next : k ≡ next_record b.trades) where
    -- what the book answers, where the series is stored too
    pub stored_apart : (f : Effect) → f ≡ effect_at (rejoined b held) i e
        → {a : Answer} {p : List ℤ} {n : ℕ} {requests : List ℕ} {declined : List Bool} {m : mark_type.Mark} {entry : trade_type.Trade} {trades : ℕ}
        → Parts f (series_at (rejoined b held) i) (trade_at b k) b.trades a p n requests declined m entry trades
        → rejoined (with_blotter (with_series b i (with_mark (with_requests (series_at b i) requests declined) m)) (set b.blotter k entry) trades)
        (set held i (at_i p n))
        ≡ (step_of (rejoined b held) e).book
    stored_apart f h {p = p} {n = n} {requests = requests} {declined = declined} {m = m} {entry = entry} {trades = trades} parts =
        parts_apart p n requests declined m entry trades ∙ ap (λ (x : Step). x.book) (step_stored (rejoined b held) e i k its lt next f h parts)

    -- and where it is left: a trade changes positions and open interest alone
    pub traded_apart : (t : trade_type.Trade) → effect.Traded t ≡ effect_at (rejoined b held) i e
        → {p : List ℤ} {n : ℕ} {entry : trade_type.Trade} {trades : ℕ}
        → p ≡ positions_by (effect.Traded t) (series_at (rejoined b held) i).positions
        → n ≡ interest_by (effect.Traded t) (series_at (rejoined b held) i).positions (series_at (rejoined b held) i).open_interest
        → entry ≡ t → trades ≡ b.trades + 1
        → rejoined (with_blotter b (set b.blotter k entry) trades) (set held i (at_i p n)) ≡ (step_of (rejoined b held) e).book
    traded_apart t h {p = p} {n = n} {entry = entry} {trades = trades} moved kept joins more =
        ap (λ (l : List Series). rejoined (with_blotter (with_all_series b l) (set b.blotter k entry) trades) (set held i (at_i p n)))
        (sym (set-get_or b.series i no_series))
        ∙ stored_apart (effect.Traded t) h (record {
          answer = refl;
          moved = moved;
          kept = kept;
          requested = ap (λ (s : Series). s.requests) (sym (series_rejoined b held i lt));
          declining = ap (λ (s : Series). s.declined) (sym (series_rejoined b held i lt));
          mark = ap (λ (s : Series). s.mark) (sym (series_rejoined b held i lt));
          recorded = joins;
          counted = more;
        })
