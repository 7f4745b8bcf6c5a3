-- What an event that the book allows meets: the conditions under which it would have been refused all fail.
use Rattle.std.proofs.lemmas.Option.{none-some}
use Rattle.std.specs.Prelude.{Option, Some, None, Ok, Err}
use mathlib.Core.Path.{◌≡◌, refl, sym}
use mathlib.Core.Logic.{◌≢◌}
use mathlib.Core.Bool.{Bool, true, false, ◌&&◌, not}
use mathlib.Core.List as list
use Prim.Native.Nat.{ℕ, zero, suc, ◌+◌, ◌%◌, ◌≤◌, ◌<◌}
use native.Mathlib.Decide.{ℕ_discrete}
use native.Mathlib.Omega.{arith}
use borrow.Author.Tests.{ltb-false, leb-false, eqb-false, not-false}
use lib.IntN.{ℤ, pos, neg_ℤ}
use Rattle.choice.specs.Choice.{choose}
use Rattle.exercise.specs.Exercise.{held}
use Rattle.terms.specs.Bounds.{accounts, series_room, final_day, blotter_room, max_strike, max_tick, max_option_price, max_futures_price, max_tick_value, max_quantity, max_position}
use Rattle.value.specs.Value.{coefficient_of}
use Rattle.places.specs.Places.{sections}
use Rattle.series.specs.Conditions.{gross_after, passes_limit, too_early}
use Rattle.series.specs.Series.{position_in}
use Rattle.series.specs.declared.event.NewSeries.{NewSeries}
use Rattle.series.specs.declared.event.Deal.{Deal}
use Rattle.series.specs.declared.event.Request.{Request}
use Rattle.series.specs.declared.event.Waiver.{Waiver}
use Rattle.series.specs.declared.event.Quote.{Quote}
use Rattle.series.specs.declared.refusal.Refusal.{Refusal}
use Rattle.series.specs.Refusals.{Verdict}
use Rattle.series.specs.declared.state.Listing.{Listing}
use Rattle.book.specs.State.{series_at, live, today_of}
use Rattle.book.specs.Verdicts.{and_then, parties_verdict, price_verdict, list_verdict, trade_verdict, exercise_verdict, decline_verdict, mark_verdict, lacks_mark, first_from, first_unmarked, needs_mark, verdict_of}
use Rattle.book.specs.declared.state.Book.{Book}
use Rattle.book.specs.declared.state.Event.TheVariants.{List, Trade, Exercise, Decline, Mark, Intraday, Evening}
use Rattle.book.specs.declared.state.Today.{Today}
use Rattle.book.proofs.Live.{live_yes, false_not_true}

pub refused_not_allowed : {why : Refusal} → ◌≡◌ {A = Verdict} (Err why) (Ok tt) → ⊥
refused_not_allowed e = let z : ◌≡◌ {A = ℕ} 0 1 = cc in omega arith

-- one condition of a chain that ends in Ok: it fails, and the rest of the chain ends in Ok
record Passed (t : Bool) (v : Verdict) : Type 0 where
  pub failed : t ≡ false
  pub rest : v ≡ Ok tt

passed : (t : Bool) (why : Refusal) (v : Verdict) → choose t (Err why) v ≡ Ok tt → Passed t v
unfolding choose
passed true why v e = absurd (refused_not_allowed e)
passed false why v e = record { failed = refl; rest = e }

-- two groups of conditions that end in Ok: each does
record BothPassed (v w : Verdict) : Type 0 where
  pub first : v ≡ Ok tt
  pub rest : w ≡ Ok tt

both_passed : (v w : Verdict) → and_then v w ≡ Ok tt → BothPassed v w
unfolding and_then
both_passed (Ok tt) w e = record { first = refl; rest = e }
both_passed (Err why) w e = absurd (refused_not_allowed e)

-- ---- a listing
pub record ListAllowed (t : Today) (n : NewSeries) : Type 0 where
  pub day : t.day ≤ final_day
  pub strike_least : 1 ≤ n.strike
  pub strike_most : n.strike ≤ max_strike
  pub tick_least : 1 ≤ n.tick
  pub tick_most : n.tick ≤ max_tick
  pub last_least : t.day ≤ n.last_day
  pub last_most : n.last_day ≤ final_day
  pub room : t.listed < series_room

pub list_allowed : (t : Today) (n : NewSeries) → list_verdict t n ≡ Ok tt → ListAllowed t n
list_allowed t n e =
    let p1 = passed _ _ _ e in
    let p2 = passed _ _ _ p1.rest in
    let p3 = passed _ _ _ p2.rest in
    let p4 = passed _ _ _ p3.rest in
    let p5 = passed _ _ _ p4.rest in
    let p6 = passed _ _ _ p5.rest in
    let p7 = passed _ _ _ p6.rest in
    let p8 = passed _ _ _ p7.rest in record {
      day = ltb-false final_day t.day p1.failed;
      strike_least = ltb-false n.strike 1 p2.failed;
      strike_most = ltb-false max_strike n.strike p3.failed;
      tick_least = ltb-false n.tick 1 p4.failed;
      tick_most = ltb-false max_tick n.tick p5.failed;
      last_least = ltb-false n.last_day t.day p6.failed;
      last_most = ltb-false final_day n.last_day p7.failed;
      room = leb-false series_room t.listed p8.failed;
    }

-- ---- events on one series, of this listing and these positions
within_limit : (n : ℕ) → passes_limit n ≡ false → n ≤ max_position
unfolding passes_limit
within_limit n e = ltb-false max_position n e

-- between whom a trade is, and its quantity and price in a series of this tick
pub record PartiesAllowed (d : Deal) : Type 0 where
  pub buyer : d.buyer < accounts
  pub seller : d.seller < accounts
  pub buyer_section : d.buyer_section < sections
  pub seller_section : d.seller_section < sections
  pub apart : d.buyer ≢ d.seller

pub parties_allowed : (d : Deal) → parties_verdict d ≡ Ok tt → PartiesAllowed d
parties_allowed d e =
    let p1 = passed _ _ _ e in
    let p2 = passed _ _ _ p1.rest in
    let p3 = passed _ _ _ p2.rest in
    let p4 = passed _ _ _ p3.rest in
    let p5 = passed _ _ _ p4.rest in record {
      buyer = leb-false accounts d.buyer p1.failed;
      seller = leb-false accounts d.seller p2.failed;
      buyer_section = leb-false sections d.buyer_section p3.failed;
      seller_section = leb-false sections d.seller_section p4.failed;
      apart = eqb-false d.buyer d.seller p5.failed;
    }

pub record PriceAllowed (tick : ℕ) (d : Deal) : Type 0 where
  pub least : 1 ≤ d.quantity
  pub most : d.quantity ≤ max_quantity
  pub price : d.price ≤ max_option_price
  pub whole_ticks : d.price % tick ≡ 0

pub price_allowed : (tick : ℕ) (d : Deal) → price_verdict tick d ≡ Ok tt → PriceAllowed tick d
price_allowed tick d e =
    let p1 = passed _ _ _ e in
    let p2 = passed _ _ _ p1.rest in
    let p3 = passed _ _ _ p2.rest in
    let p4 = passed _ _ _ p3.rest in record {
      least = ltb-false d.quantity 1 p1.failed;
      most = ltb-false max_quantity d.quantity p2.failed;
      price = ltb-false max_option_price d.price p3.failed;
      whole_ticks = omega (arith, ltb-false 0 (d.price % tick) p4.failed);
    }

pub record TradeAllowed (t : Today) (l : Listing) (positions : list.List ℤ) (d : Deal) : Type 0 where
  pub day : t.day ≤ final_day
  pub listed : d.series < t.listed
  pub live : t.day ≤ l.last_day
  pub buyer : d.buyer < accounts
  pub seller : d.seller < accounts
  pub buyer_section : d.buyer_section < sections
  pub seller_section : d.seller_section < sections
  pub apart : d.buyer ≢ d.seller
  pub least : 1 ≤ d.quantity
  pub most : d.quantity ≤ max_quantity
  pub price : d.price ≤ max_option_price
  pub whole_ticks : d.price % l.tick ≡ 0
  pub buyer_limit : gross_after positions d.buyer d.buyer_section (pos d.quantity) ≤ max_position
  pub seller_limit : gross_after positions d.seller d.seller_section (neg_ℤ (pos d.quantity)) ≤ max_position
  pub room : t.trades < blotter_room

pub trade_allowed : (t : Today) (l : Listing) (positions : list.List ℤ) (d : Deal) → trade_verdict t l positions d ≡ Ok tt → TradeAllowed t l positions d
trade_allowed t l positions d e =
    let p1 = passed _ _ _ e in
    let p2 = passed _ _ _ p1.rest in
    let p3 = passed _ _ _ p2.rest in
    let g1 = both_passed _ _ p3.rest in
    let g2 = both_passed _ _ g1.rest in
    let g3 = both_passed _ _ g2.rest in
    let p4 = passed _ _ _ g3.first in
    let p5 = passed _ _ _ p4.rest in
    let p6 = passed _ _ _ g3.rest in
    let parties = parties_allowed d g1.first in
    let price = price_allowed l.tick d g2.first in record {
      day = ltb-false final_day t.day p1.failed;
      listed = leb-false t.listed d.series p2.failed;
      live = ltb-false l.last_day t.day p3.failed;
      buyer = parties.buyer;
      seller = parties.seller;
      buyer_section = parties.buyer_section;
      seller_section = parties.seller_section;
      apart = parties.apart;
      least = price.least;
      most = price.most;
      price = price.price;
      whole_ticks = price.whole_ticks;
      buyer_limit = within_limit (gross_after positions d.buyer d.buyer_section (pos d.quantity)) p4.failed;
      seller_limit = within_limit (gross_after positions d.seller d.seller_section (neg_ℤ (pos d.quantity))) p5.failed;
      room = leb-false blotter_room t.trades p6.failed;
    }

pub record RequestAllowed (t : Today) (l : Listing) (positions : list.List ℤ) (r : Request) : Type 0 where
  pub day : t.day ≤ final_day
  pub listed : r.series < t.listed
  pub live : t.day ≤ l.last_day
  pub account : r.account < accounts
  pub section : r.section < sections
  pub in_time : too_early l.category t.day l.last_day ≡ false
  pub held : r.quantity ≤ held (position_in positions r.account r.section)

pub exercise_allowed : (t : Today) (l : Listing) (positions : list.List ℤ) (r : Request) → exercise_verdict t l positions r ≡ Ok tt
    → RequestAllowed t l positions r
exercise_allowed t l positions r e =
    let p1 = passed _ _ _ e in
    let p2 = passed _ _ _ p1.rest in
    let p3 = passed _ _ _ p2.rest in
    let p4 = passed _ _ _ p3.rest in
    let p5 = passed _ _ _ p4.rest in
    let p6 = passed _ _ _ p5.rest in
    let p7 = passed _ _ _ p6.rest in record {
      day = ltb-false final_day t.day p1.failed;
      listed = leb-false t.listed r.series p2.failed;
      live = ltb-false l.last_day t.day p3.failed;
      account = leb-false accounts r.account p4.failed;
      section = leb-false sections r.section p5.failed;
      in_time = p6.failed;
      held = ltb-false (held (position_in positions r.account r.section)) r.quantity p7.failed;
    }

pub record DeclineAllowed (t : Today) (l : Listing) (w : Waiver) : Type 0 where
  pub day : t.day ≤ final_day
  pub listed : w.series < t.listed
  pub live : t.day ≤ l.last_day
  pub account : w.account < accounts
  pub section : w.section < sections
  pub in_time : l.last_day ≤ t.day

pub decline_allowed : (t : Today) (l : Listing) (w : Waiver) → decline_verdict t l w ≡ Ok tt → DeclineAllowed t l w
decline_allowed t l w e =
    let p1 = passed _ _ _ e in
    let p2 = passed _ _ _ p1.rest in
    let p3 = passed _ _ _ p2.rest in
    let p4 = passed _ _ _ p3.rest in
    let p5 = passed _ _ _ p4.rest in
    let p6 = passed _ _ _ p5.rest in record {
      day = ltb-false final_day t.day p1.failed;
      listed = leb-false t.listed w.series p2.failed;
      live = ltb-false l.last_day t.day p3.failed;
      account = leb-false accounts w.account p4.failed;
      section = leb-false sections w.section p5.failed;
      in_time = ltb-false t.day l.last_day p6.failed;
    }

pub record MarkAllowed (t : Today) (l : Listing) (q : Quote) : Type 0 where
  pub day : t.day ≤ final_day
  pub listed : q.series < t.listed
  pub live : t.day ≤ l.last_day
  pub option : q.option ≤ max_option_price
  pub future : q.future ≤ max_futures_price
  pub tick_value_least : 1 ≤ q.tick_value
  pub tick_value : q.tick_value ≤ max_tick_value
  pub coefficient_least : 1 ≤ coefficient_of q.tick_value l.tick
  pub coefficient : coefficient_of q.tick_value l.tick ≤ max_tick_value

pub mark_allowed : (t : Today) (l : Listing) (q : Quote) → mark_verdict t l q ≡ Ok tt → MarkAllowed t l q
mark_allowed t l q e =
    let p1 = passed _ _ _ e in
    let p2 = passed _ _ _ p1.rest in
    let p3 = passed _ _ _ p2.rest in
    let p4 = passed _ _ _ p3.rest in
    let p5 = passed _ _ _ p4.rest in
    let p6 = passed _ _ _ p5.rest in
    let p7 = passed _ _ _ p6.rest in
    let p8 = passed _ _ _ p7.rest in
    let p9 = passed _ _ _ p8.rest in record {
      day = ltb-false final_day t.day p1.failed;
      listed = leb-false t.listed q.series p2.failed;
      live = ltb-false l.last_day t.day p3.failed;
      option = ltb-false max_option_price q.option p4.failed;
      future = ltb-false max_futures_price q.future p5.failed;
      tick_value_least = ltb-false q.tick_value 1 p6.failed;
      tick_value = ltb-false max_tick_value q.tick_value p7.failed;
      coefficient_least = ltb-false (coefficient_of q.tick_value l.tick) 1 p8.failed;
      coefficient = ltb-false max_tick_value (coefficient_of q.tick_value l.tick) p9.failed;
    }

-- ---- the same in a book
abbrev pub CanTrade : Book → Deal → Type 0
CanTrade b d = TradeAllowed (today_of b) (series_at b d.series).listing (series_at b d.series).positions d

abbrev pub CanExercise : Book → Request → Type 0
CanExercise b r = RequestAllowed (today_of b) (series_at b r.series).listing (series_at b r.series).positions r

abbrev pub CanDecline : Book → Waiver → Type 0
CanDecline b w = DeclineAllowed (today_of b) (series_at b w.series).listing w

abbrev pub CanMark : Book → Quote → Type 0
CanMark b q = MarkAllowed (today_of b) (series_at b q.series).listing q

module _ (b : Book) where
  pub allowed_list : (n : NewSeries) → verdict_of b (List n) ≡ Ok tt → ListAllowed (today_of b) n
  allowed_list n e = list_allowed (today_of b) n e

  pub allowed_trade : (d : Deal) → verdict_of b (Trade d) ≡ Ok tt → CanTrade b d
  allowed_trade d e = trade_allowed (today_of b) (series_at b d.series).listing (series_at b d.series).positions d e

  pub allowed_exercise : (r : Request) → verdict_of b (Exercise r) ≡ Ok tt → CanExercise b r
  allowed_exercise r e = exercise_allowed (today_of b) (series_at b r.series).listing (series_at b r.series).positions r e

  pub allowed_decline : (w : Waiver) → verdict_of b (Decline w) ≡ Ok tt → CanDecline b w
  allowed_decline w e = decline_allowed (today_of b) (series_at b w.series).listing w e

  pub allowed_mark : (q : Quote) → verdict_of b (Mark q) ≡ Ok tt → CanMark b q
  allowed_mark q e = mark_allowed (today_of b) (series_at b q.series).listing q e

-- ---- sessions
-- every live series has its mark
abbrev pub AllMarked : Book → Type 0
AllMarked b = (i : ℕ) → live b i ≡ true → (series_at b i).mark.made ≡ true

none_found : (f : Option ℕ) → needs_mark f ≡ Ok tt → f ≡ None
unfolding needs_mark
none_found (Some i) e = absurd (refused_not_allowed e)
none_found None e = refl

-- where the search comes to its end, no series of its range lacks a mark
none_lacks : (b : Book) (n i : ℕ) → first_from b n i ≡ None → (k : ℕ) → i ≤ k → k < i + n → lacks_mark b k ≡ false
unfolding first_from choose
none_lacks b zero i e k le lt = absurd (none le lt)
  where
    none : i ≤ k → k < i + 0 → ⊥
    none le lt = omega arith
none_lacks b (suc n) i e k le lt = by (lacks_mark b i) refl e (λ r l. none_lacks b n (suc i) r k l (omega arith)) (ℕ_discrete k i)
  where
    by : (t : Bool) → lacks_mark b i ≡ t → choose t (Some i) (first_from b n (suc i)) ≡ None
        → (first_from b n (suc i) ≡ None → suc i ≤ k → lacks_mark b k ≡ false) → Dec (k ≡ i) → lacks_mark b k ≡ false
    by true s r ih d = absurd (none-some _ (sym r))
    by false s r ih (yes q) = rw q s
    by false s r ih (no q) = ih r (omega arith)

marked_if : (t m : Bool) → (t && not m) ≡ false → t ≡ true → m ≡ true
marked_if true m e l = not-false m e
marked_if false m e l = absurd (false_not_true l)

pub all_marked : (b : Book) → needs_mark (first_unmarked b) ≡ Ok tt → AllMarked b
all_marked b e i l =
    marked_if (live b i) (series_at b i).mark.made
    (none_lacks b b.listed 0 (none_found (first_unmarked b) e) i (omega arith) (omega (arith, (live_yes b i l).listed))) l

pub record CanIntraday (b : Book) : Type 0 where
  pub day : b.day ≤ final_day
  pub first : b.intraday_done ≡ false
  pub marked : AllMarked b

pub allowed_intraday : (b : Book) → verdict_of b Intraday ≡ Ok tt → CanIntraday b
allowed_intraday b e =
    let p1 = passed _ _ _ e in
    let p2 = passed _ _ _ p1.rest in
    record { day = ltb-false final_day b.day p1.failed; first = p2.failed; marked = all_marked b p2.rest }

pub record CanEvening (b : Book) : Type 0 where
  pub day : b.day ≤ final_day
  pub marked : AllMarked b

pub allowed_evening : (b : Book) → verdict_of b Evening ≡ Ok tt → CanEvening b
allowed_evening b e =
    let p1 = passed _ _ _ e in
    record { day = ltb-false final_day b.day p1.failed; marked = all_marked b p1.rest }
