-- Under which conditions an event is refused (RULES, "Refusals"): for each event one chain, in the order of their numbers, with 23 directly
-- after 4. "The lowest number that applies is the answer": the first condition of the chain that holds decides.
use Rattle.std.specs.Prelude.{Bool, ◌&&◌, not, ℕ, zero, suc, ◌%◌, ltb, leb, eqb, ℤ, pos, neg_ℤ, Option, Some, None, Ok, Err}
use mathlib.Core.List as list
use Rattle.choice.specs.Choice.{choose}
use Rattle.exercise.specs.Exercise.{held}
use Rattle.terms.specs.Bounds.{accounts, series_room, final_day, blotter_room, max_strike, max_tick, max_option_price, max_futures_price, max_tick_value, max_quantity}
use Rattle.value.specs.Value.{coefficient_of}
use Rattle.series.specs.Conditions.{gross_after, passes_limit, too_early}
use Rattle.places.specs.Places.{sections}
use Rattle.series.specs.Series.{past_last, position_in}
use Rattle.series.specs.declared.event.NewSeries.{NewSeries}
use Rattle.series.specs.declared.event.Deal.{Deal}
use Rattle.series.specs.declared.event.Request.{Request}
use Rattle.series.specs.declared.event.Waiver.{Waiver}
use Rattle.series.specs.declared.event.Quote.{Quote}
use Rattle.series.specs.declared.state.Listing.{Listing}
use Rattle.series.specs.declared.refusal.Refusal.TheVariants.{Finished, UnknownSeries, Expired, UnknownAccount, UnknownSection, OwnTrade, Size, Price, PositionLimit, BlotterFull, Terms, SeriesFull, NotToday, NotHeld, TickValue, SecondIntraday, NoMark}
use Rattle.series.specs.Refusals.{Verdict}
use Rattle.book.specs.State.{series_at, live, today_of}
use Rattle.book.specs.declared.state.Book.{Book}
use Rattle.book.specs.declared.state.Event.{Event}
use Rattle.book.specs.declared.state.Event.TheVariants.{List, Trade, Exercise, Decline, Mark, Intraday, Evening}
use Rattle.book.specs.declared.state.Today.{Today}

-- 1, finished: day 999's evening is over; every event
abbrev pub finished : Today → Bool
finished t = ltb final_day t.day

-- 2, unknown series: number not listed
abbrev pub unlisted : Today → ℕ → Bool
unlisted t i = leb t.listed i

-- 4, unknown account: above 63
abbrev pub unknown : ℕ → Bool
unknown account = leb accounts account

-- 23, unknown section: above 1; "directly after 4"
abbrev pub unknown_section : ℕ → Bool
unknown_section section = leb sections section

-- a listing
abbrev pub list_verdict : Today → NewSeries → Verdict
list_verdict t n =
    choose (finished t) (Err Finished)
    (choose (ltb n.strike 1) (Err Terms)
    (choose (ltb max_strike n.strike) (Err Terms)
    (choose (ltb n.tick 1) (Err Terms)
    (choose (ltb max_tick n.tick) (Err Terms)
    (choose (ltb n.last_day t.day) (Err Terms)
    (choose (ltb final_day n.last_day) (Err Terms)
    (choose (leb series_room t.listed) (Err SeriesFull)
    (Ok tt))))))))

-- one group of conditions, and then another: the first condition that holds decides
unfoldable pub and_then : Verdict → Verdict → Verdict
and_then (Ok tt) next = next
and_then (Err why) next = Err why

-- 4, 23 and 5, between whom a trade is: "both accounts are tested for 4 first, then both sections for 23"
abbrev pub parties_verdict : Deal → Verdict
parties_verdict d =
    choose (unknown d.buyer) (Err UnknownAccount)
    (choose (unknown d.seller) (Err UnknownAccount)
    (choose (unknown_section d.buyer_section) (Err UnknownSection)
    (choose (unknown_section d.seller_section) (Err UnknownSection)
    (choose (eqb d.buyer d.seller) (Err OwnTrade)
    (Ok tt)))))

-- 6 and 7, its quantity and its price, in a series of this tick
abbrev pub price_verdict : ℕ → Deal → Verdict
price_verdict tick d =
    choose (ltb d.quantity 1) (Err Size)
    (choose (ltb max_quantity d.quantity) (Err Size)
    (choose (ltb max_option_price d.price) (Err Price)
    (choose (ltb 0 (d.price % tick)) (Err Price)
    (Ok tt))))

-- 8, what each side has after it, in a series of these positions: "each side by itself"
abbrev pub limit_verdict : list.List ℤ → Deal → Verdict
limit_verdict positions d =
    choose (passes_limit (gross_after positions d.buyer d.buyer_section (pos d.quantity))) (Err PositionLimit)
    (choose (passes_limit (gross_after positions d.seller d.seller_section (neg_ℤ (pos d.quantity)))) (Err PositionLimit)
    (Ok tt))

-- a trade in a series of this listing and these positions
abbrev pub trade_verdict : Today → Listing → list.List ℤ → Deal → Verdict
trade_verdict t l positions d =
    choose (finished t) (Err Finished)
    (choose (unlisted t d.series) (Err UnknownSeries)
    (choose (past_last l t.day) (Err Expired)
    (and_then (parties_verdict d)
    (and_then (price_verdict l.tick d)
    (and_then (limit_verdict positions d)
    (choose (leb blotter_room t.trades) (Err BlotterFull)
    (Ok tt)))))))

-- a request to exercise, "above the position of its section, counted as 0 if short"
abbrev pub exercise_verdict : Today → Listing → list.List ℤ → Request → Verdict
exercise_verdict t l positions r =
    choose (finished t) (Err Finished)
    (choose (unlisted t r.series) (Err UnknownSeries)
    (choose (past_last l t.day) (Err Expired)
    (choose (unknown r.account) (Err UnknownAccount)
    (choose (unknown_section r.section) (Err UnknownSection)
    (choose (too_early l.category t.day l.last_day) (Err NotToday)
    (choose (ltb (held (position_in positions r.account r.section)) r.quantity) (Err NotHeld)
    (Ok tt)))))))

-- a holder's refusal, "before the last day"
abbrev pub decline_verdict : Today → Listing → Waiver → Verdict
decline_verdict t l w =
    choose (finished t) (Err Finished)
    (choose (unlisted t w.series) (Err UnknownSeries)
    (choose (past_last l t.day) (Err Expired)
    (choose (unknown w.account) (Err UnknownAccount)
    (choose (unknown_section w.section) (Err UnknownSection)
    (choose (ltb t.day l.last_day) (Err NotToday)
    (Ok tt))))))

-- a mark: "W, or c, outside 1 to 200,000,000"
abbrev pub mark_verdict : Today → Listing → Quote → Verdict
mark_verdict t l q =
    choose (finished t) (Err Finished)
    (choose (unlisted t q.series) (Err UnknownSeries)
    (choose (past_last l t.day) (Err Expired)
    (choose (ltb max_option_price q.option) (Err Price)
    (choose (ltb max_futures_price q.future) (Err Price)
    (choose (ltb q.tick_value 1) (Err TickValue)
    (choose (ltb max_tick_value q.tick_value) (Err TickValue)
    (choose (ltb (coefficient_of q.tick_value l.tick) 1) (Err TickValue)
    (choose (ltb max_tick_value (coefficient_of q.tick_value l.tick)) (Err TickValue)
    (Ok tt)))))))))

-- a live series lacks a mark
abbrev pub lacks_mark : Book → ℕ → Bool
lacks_mark b i = live b i && not (series_at b i).mark.made

-- the lowest of the n series from i on that lacks a mark
unfoldable pub first_from : Book → ℕ → ℕ → Option ℕ
first_from b zero i = None
first_from b (suc n) i = choose (lacks_mark b i) (Some i) (first_from b n (suc i))

abbrev pub first_unmarked : Book → Option ℕ
first_unmarked b = first_from b b.listed 0

-- 16, no mark: a live series lacks one; the lowest such series is named
unfoldable pub needs_mark : Option ℕ → Verdict
needs_mark (Some i) = Err (NoMark i)
needs_mark None = Ok tt

-- the two sessions
abbrev pub intraday_verdict : Book → Verdict
intraday_verdict b =
    choose (finished (today_of b)) (Err Finished)
    (choose b.intraday_done (Err SecondIntraday)
    (needs_mark (first_unmarked b)))

abbrev pub evening_verdict : Book → Verdict
evening_verdict b =
    choose (finished (today_of b)) (Err Finished)
    (needs_mark (first_unmarked b))

-- an event of a book; an event on one series with the listing and the positions of that series
abbrev pub verdict_of : Book → Event → Verdict
verdict_of b (List n) = list_verdict (today_of b) n
verdict_of b (Trade d) = trade_verdict (today_of b) (series_at b d.series).listing (series_at b d.series).positions d
verdict_of b (Exercise r) = exercise_verdict (today_of b) (series_at b r.series).listing (series_at b r.series).positions r
verdict_of b (Decline w) = decline_verdict (today_of b) (series_at b w.series).listing w
verdict_of b (Mark q) = mark_verdict (today_of b) (series_at b q.series).listing q
verdict_of b Intraday = intraday_verdict b
verdict_of b Evening = evening_verdict b
