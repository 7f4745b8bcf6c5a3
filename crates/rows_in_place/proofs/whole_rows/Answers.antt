-- `rows_in_place::whole_rows` meets its contract: each row is answered, which keeps the book good, and leaves room for the lines of one
-- more. A row on one series is its event's step, and has its answer's line alone. The book of a turn is the one in the loop with the
-- positions put back.
use Rattle.std.proofs.Common.{◌≡◌, ℕ, ◌+◌, ◌%◌, ◌^◌, ◌<◌, List, length, sym, refl, ap, ◌∙◌, subst, ap₂, arith, length-set}
use Rattle.calendar.specs.Days.{dates_of}
use Rattle.integer.proofs.Table.{length_table}
use Rattle.terms.specs.Bounds.{series_room, blotter_room}
use Rattle.series.specs.Good.{GoodSeries}
use Rattle.series.specs.declared.state.Series.{Series}
use Rattle.book.specs.Apart.{held_at, with_held, rejoined}
use Rattle.book.specs.Effects.{Fits, effect_of, answer_by, positions_by, interest_by, requests_by, declines_by, mark_by, record_by, trades_by}
use Rattle.book.specs.Good.{Good}
use Rattle.book.specs.State.{series_at, trade_at, today_of, with_all_series}
use Rattle.book.specs.Step.{step_of}
use Rattle.book.specs.declared.state.Book.{Book}
use Rattle.book.specs.declared.state.Effect.{Effect}
use Rattle.book.specs.declared.state.Event.{Event}
use Rattle.book.specs.declared.state.Held.{Held}
use Rattle.book.specs.declared.state.Today.{Today}
use Rattle.book.proofs.Apart.{rejoined_taken, series_rejoined, stored_apart, traded_apart}
use Rattle.book.proofs.Effects.{next_record_within, effect_fits, effect_at, answer_by_effect}
use Rattle.book.proofs.Keeps.{good_step}
use Rattle.rows.specs.Cut.{Cut}
use Rattle.rows.proofs.Ends.{row_fits, no_row_lem}
use Rattle.stream.proofs.Books.{book_accepted, series_line}
use Rattle.stream.proofs.Lines.{up_to_none, up_to_next, lines_answered, next_answered, all_answered}
use Rattle.stream.proofs.NextRow.{Found, found}
use Rattle.rows_in_place.proofs.whole_rows.Given.{Over}
use Rattle.rows_in_place.proofs.whole_rows.Goals.{After-put_answer, After-put_back-replay}
use Rattle.rows_in_place.proofs.whole_rows.Goals as goal
use Rattle.rows_in_place.proofs.whole_rows.Invariants.{UpTo}

-- a series with what stands apart of it is good, where the book with all of that put back is, and an effect on it fits
module _ (b : Book) (held : List Held) (i : ℕ) (lt : i < series_room) (good : Good (rejoined b held)) where
  good_at : GoodSeries b.day (with_held (series_at b i) (held_at held i))
  good_at = subst (GoodSeries b.day) (series_rejoined b held i lt) (good.series i lt)

  fits_at : (t : Today) (e : Event) {f : Effect} → f ≡ effect_of t (series_at b i).listing (held_at held i).positions e → Fits f
  fits_at t e is = rw is (effect_fits t (series_at b i).listing _ good_at.positions.bounded e)

-- ---- another row, or none: the positions are put back
module _ (g : Over) (c : After-put_back-replay g) where
  abbrev With : List Series → Type 0
  With series =
      UpTo (dates_of c.args.calendar.now) c.args.input.now c.args.replay.now c.args.out.now
      (record { book = with_all_series c.loop-series.replay.book series; row = c.loop-series.replay.row; waiting = c.loop-series.replay.waiting }) c.loop-series.from c.loop-series.out

  whole : With c.put_back-replay.result
  whole = subst With (sym c.put_back-replay.ensures) c.loop-series.invariant.3

-- ---- a row on one series, whose answer was put behind what waits
module _ (g : Over) (c : After-put_answer g) where
  abbrev now : Book
  now = rejoined c.loop-series.replay.book c.loop-series.held

  abbrev good : Good now
  good = c.loop-series.invariant.3.ready.good

  abbrev row : Found (dates_of c.args.calendar.now) c.args.input.now c.loop-series.from c.in-Some.field-0.series c.in-Some.field-0.event c.in-Some.field-0.next
  row = found _ _ _ c.series_row.ensures _ _ _ c.in-Some.is

  -- its series, as it stands in the loop
  its_series : series_at now c.in-Some.field-0.series ≡ with_held (series_at c.loop-series.replay.book c.in-Some.field-0.series) (held_at c.loop-series.held c.in-Some.field-0.series)
  its_series = series_rejoined c.loop-series.replay.book c.loop-series.held c.in-Some.field-0.series row.room

  fits : Fits c.effect-effect.result
  fits = fits_at c.loop-series.replay.book c.loop-series.held _ row.room good _ _ c.effect-effect.ensures

  effect_is : c.effect-effect.result ≡ effect_at now c.in-Some.field-0.series c.in-Some.field-0.event
  effect_is =
      c.effect-effect.ensures
      ∙ ap (λ (t : Today). effect_of t (series_at c.loop-series.replay.book c.in-Some.field-0.series).listing (held_at c.loop-series.held c.in-Some.field-0.series).positions c.in-Some.field-0.event) c.today_of-today.ensures
      ∙ ap (λ (s : Series). effect_of (today_of now) s.listing s.positions c.in-Some.field-0.event) (sym its_series)

  answered : c.answer.result ≡ (step_of now c.in-Some.field-0.event).answer
  answered = c.answer.ensures ∙ ap answer_by effect_is ∙ answer_by_effect now c.in-Some.field-0.event c.in-Some.field-0.series row.series row.room

  -- the row is passed, once the book is its step's
  passed : (b : Book) → b ≡ (step_of now c.in-Some.field-0.event).book
      → UpTo (dates_of c.args.calendar.now) c.args.input.now c.args.replay.now c.args.out.now
      (record { book = b; row = (c.loop-series.replay.row + 1) % 2 ^ 64; waiting = c.put_answer.new.waiting }) c.in-Some.field-0.next
      c.put_answer.new.out
  passed b e =
      let p = c.loop-series.invariant.3 in
      let w = c.put_answer in
      let k : length w.new.out ≡ length c.loop-series.out = w.auto.out in
      record {
        answered = up_to_next (rw row.first at p.answered)
            (lines_answered (e ∙ book_accepted now row.says) refl
            (rw (← series_line ((c.loop-series.replay.row + 1) % 2 ^ 64) now good c.in-Some.field-0.event (rw (← row.series) row.room) answered row.says) w.ensures));
        within = row.within;
        ready = record { good = subst Good (sym e) (good_step now good c.in-Some.field-0.event); waiting = w.ensures.room; room = omega (arith, k, p.ready.room) };
      }

pub loop-series-init : goal.loop-series-init
loop-series-init g c =
    let long = c.requires.good.series_long in
    let same : rejoined c.args.replay.now.book c.taken_out-held.result ≡ c.args.replay.now.book = rw c.taken_out-held.ensures (rejoined_taken c.args.replay.now.book long) in (
      refl,
      long,
      rw c.taken_out-held.ensures (length_table series_room _),
      rw same (record { answered = up_to_none _ c.args.replay.now c.args.out.now _; within = omega arith; ready = c.requires }),
    )

pub returns-in_default-row_end : goal.returns-in_default-row_end
returns-in_default-row_end g c =
    let p = whole g (goal.at.returns-in_default-row_end g c).After-put_back-replay in
    let all = all_answered c.args.input.now c.loop-series.from c.row_end.ensures p.answered c.in_default-row_end.is in
    record {
      answered = all.1;
      none = ap (λ (x : Cut). x.rows) (no_row_lem c.args.input.now c.loop-series.from _ c.row_end.ensures c.in_default-row_end.is);
      unfinished = all.0;
      within = p.within;
      ready = p.ready;
    }

-- ---- the other row is answered, and the positions are taken out of the book after it
pub slice_bounds-pass_row-count : goal.slice_bounds-pass_row-count
slice_bounds-pass_row-count g c = (row_fits _ _ _ c.row_end.ensures _ c.in-Some-row_end.is).0

pub slice_bounds-pass_row-start : goal.slice_bounds-pass_row-start
slice_bounds-pass_row-start g c = (row_fits _ _ _ c.row_end.ensures _ c.in-Some-row_end.is).0

pub slice_bounds-pass_row-end : goal.slice_bounds-pass_row-end
slice_bounds-pass_row-end g c = omega (arith, (row_fits _ _ _ c.row_end.ensures _ c.in-Some-row_end.is).1)

pub loop-series-smaller-in_default : goal.loop-series-smaller-in_default
loop-series-smaller-in_default g c =
    let ends = row_fits _ _ _ c.row_end.ensures _ c.in-Some-row_end.is in
    omega (arith, ends.0, ends.1)

pub loop-series-preserved-in_default : goal.loop-series-preserved-in_default
loop-series-preserved-in_default g c =
    let p = whole g (goal.at.loop-series-preserved-in_default g c).After-put_back-replay in
    let a = c.pass_row in
    let long = a.ensures.ready.good.series_long in
    let same : rejoined a.new.replay.book c.taken_out-held-in_default.result ≡ a.new.replay.book = rw c.taken_out-held-in_default.ensures (rejoined_taken a.new.replay.book long) in (
      omega (arith, a.auto.out, c.loop-series.invariant.0),
      long,
      rw c.taken_out-held-in_default.ensures (length_table series_room _),
      rw same
          (record {
            answered = next_answered c.args.input.now c.loop-series.from c.row_end.ensures p.answered
                c.in-Some-row_end.end c.in-Some-row_end.is a.ensures.answered;
            within = (row_fits _ _ _ c.row_end.ensures _ c.in-Some-row_end.is).1;
            ready = a.ensures.ready;
          }),
    )

-- ---- the event on one series is carried out
pub offset_bounds-replay-series : goal.offset_bounds-replay-series
offset_bounds-replay-series g c = omega (arith, (found _ _ _ c.series_row.ensures _ _ _ c.in-Some.is).room)

pub bounds-replay-series : goal.bounds-replay-series
bounds-replay-series g c = (found _ _ _ c.series_row.ensures _ _ _ c.in-Some.is).room

pub offset_bounds-held-series : goal.offset_bounds-held-series
offset_bounds-held-series g c = omega (arith, (found _ _ _ c.series_row.ensures _ _ _ c.in-Some.is).room)

pub bounds-held-series : goal.bounds-held-series
bounds-held-series g c = (found _ _ _ c.series_row.ensures _ _ _ c.in-Some.is).room

pub effect-effect-requires : goal.effect-effect-requires
effect-effect-requires g c =
    let r = found _ _ _ c.series_row.ensures _ _ _ c.in-Some.is in
    let tick = subst (λ (s : Series). c.in-Some.field-0.series < c.loop-series.replay.book.listed → 0 < s.listing.tick)
    (series_rejoined c.loop-series.replay.book c.loop-series.held c.in-Some.field-0.series r.room) (c.loop-series.invariant.3.ready.good.tick c.in-Some.field-0.series) in
    rw (c.today_of-today.ensures, ← r.series) tick

pub interest-h-requires : goal.interest-h-requires
interest-h-requires g c =
    let r = found _ _ _ c.series_row.ensures _ _ _ c.in-Some.is in
    let s = good_at c.loop-series.replay.book c.loop-series.held _ r.room c.loop-series.invariant.3.ready.good in
    (fits_at c.loop-series.replay.book c.loop-series.held _ r.room c.loop-series.invariant.3.ready.good _ _ c.effect-effect.ensures, s.positions.bounded, s.interest)

pub move_positions-requires : goal.move_positions-requires
move_positions-requires g c =
    let r = found _ _ _ c.series_row.ensures _ _ _ c.in-Some.is in
    let s = good_at c.loop-series.replay.book c.loop-series.held _ r.room c.loop-series.invariant.3.ready.good in
    (fits_at c.loop-series.replay.book c.loop-series.held _ r.room c.loop-series.invariant.3.ready.good _ _ c.effect-effect.ensures, s.positions.bounded)

pub offset_bounds-held-series-in-loop-series : goal.offset_bounds-held-series-in-loop-series
offset_bounds-held-series-in-loop-series g c = omega (arith, (found _ _ _ c.series_row.ensures _ _ _ c.in-Some.is).room)

pub bounds-held-series-in-loop-series : goal.bounds-held-series-in-loop-series
bounds-held-series-in-loop-series g c = (found _ _ _ c.series_row.ensures _ _ _ c.in-Some.is).room

pub offset_bounds-replay-n : goal.offset_bounds-replay-n
offset_bounds-replay-n g c =
    let k : c.next_record-n.result < blotter_room = rw c.next_record-n.ensures (next_record_within _) in
    omega (arith, k)

pub bounds-replay-n : goal.bounds-replay-n
bounds-replay-n g c =
    let k : c.next_record-n.result < blotter_room = rw c.next_record-n.ensures (next_record_within _) in
    k

pub offset_bounds-replay-n-in-loop-series : goal.offset_bounds-replay-n-in-loop-series
offset_bounds-replay-n-in-loop-series g c =
    let k : c.next_record-n.result < blotter_room = rw c.next_record-n.ensures (next_record_within _) in
    omega (arith, k)

pub bounds-replay-n-in-loop-series : goal.bounds-replay-n-in-loop-series
bounds-replay-n-in-loop-series g c =
    let k : c.next_record-n.result < blotter_room = rw c.next_record-n.ensures (next_record_within _) in
    k

-- ---- the next turn
pub loop-series-smaller-in-Traded : goal.loop-series-smaller-in-Traded
loop-series-smaller-in-Traded g c =
    let r = row g (goal.at.loop-series-smaller-in-Traded g c).After-put_answer in
    omega (arith, r.later, r.within)

pub loop-series-preserved-in-Traded : goal.loop-series-preserved-in-Traded
loop-series-preserved-in-Traded g c =
    let n = (goal.at.loop-series-preserved-in-Traded g c).After-put_answer in
    let told = c.in-Traded.is in
    let b = c.loop-series.replay.book in
    let held = c.loop-series.held in
    let e =
    traded_apart b held c.in-Some.field-0.series c.next_record-n.result c.loop-series.invariant.1 c.loop-series.invariant.2 (row g n).room c.in-Some.field-0.event
    (row g n).series c.next_record-n.ensures c.in-Traded.field-0 (sym told ∙ effect_is g n)
    (c.move_positions.ensures ∙ ap₂ positions_by told (ap (λ (s : Series). s.positions) (sym (its_series g n))))
    (c.interest-h.ensures ∙ (λ x. interest_by (told x) (sym (its_series g n) x).positions (sym (its_series g n) x).open_interest))
    (c.entry.ensures ∙ ap (λ (f : Effect). record_by f (trade_at b c.next_record-n.result)) told)
    (c.counted-replay.ensures ∙ ap (λ (f : Effect). trades_by f b.trades) told)
    in (
      omega (arith, c.put_answer.auto.out, c.loop-series.invariant.0),
      c.loop-series.invariant.1,
      length-set held c.in-Some.field-0.series _ ∙ c.loop-series.invariant.2,
      passed g n _ e,
    )

-- another event than a trade has changed its series
pub offset_bounds-replay-series-in-loop-series : goal.offset_bounds-replay-series-in-loop-series
offset_bounds-replay-series-in-loop-series g c = omega (arith, (found _ _ _ c.series_row.ensures _ _ _ c.in-Some.is).room)

pub bounds-replay-series-in-loop-series : goal.bounds-replay-series-in-loop-series
bounds-replay-series-in-loop-series g c = (found _ _ _ c.series_row.ensures _ _ _ c.in-Some.is).room

pub set_request-requires : goal.set_request-requires
set_request-requires g c = fits g (goal.at.set_request-requires g c).After-put_answer

pub set_decline-requires : goal.set_decline-requires
set_decline-requires g c = fits g (goal.at.set_decline-requires g c).After-put_answer

pub loop-series-smaller : goal.loop-series-smaller
loop-series-smaller g c =
    let r = row g (goal.at.loop-series-smaller g c).After-put_answer in
    omega (arith, r.later, r.within)

pub loop-series-preserved : goal.loop-series-preserved
loop-series-preserved g c =
    let n = (goal.at.loop-series-preserved g c).After-put_answer in
    let b = c.loop-series.replay.book in
    let held = c.loop-series.held in
    let s = sym (its_series g n) in
    let e =
    stored_apart b held c.in-Some.field-0.series c.next_record-n.result c.loop-series.invariant.1 c.loop-series.invariant.2 (row g n).room c.in-Some.field-0.event
    (row g n).series c.next_record-n.ensures c.effect-effect.result (effect_is g n)
    (record {
      answer = c.answer.ensures;
      moved = c.move_positions.ensures ∙ ap (λ (x : Series). positions_by c.effect-effect.result x.positions) s;
      kept = c.interest-h.ensures ∙ ap (λ (x : Series). interest_by c.effect-effect.result x.positions x.open_interest) s;
      requested = c.set_request.ensures ∙ ap (λ (x : Series). requests_by c.effect-effect.result x.requests) s;
      declining = c.set_decline.ensures ∙ ap (λ (x : Series). declines_by c.effect-effect.result x.declined) s;
      mark = c.mark-s.ensures ∙ ap (λ (x : Series). mark_by c.effect-effect.result x.mark) s;
      recorded = c.entry.ensures;
      counted = c.counted-replay.ensures;
    })
    in (
      omega (arith, c.put_answer.auto.out, c.loop-series.invariant.0),
      length-set b.series c.in-Some.field-0.series _ ∙ c.loop-series.invariant.1,
      length-set held c.in-Some.field-0.series _ ∙ c.loop-series.invariant.2,
      passed g n _ e,
    )
