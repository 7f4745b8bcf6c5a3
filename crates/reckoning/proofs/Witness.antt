-- The demand is not empty: the first eight rows of crates/replay/stdin are a list with an intraday session and two evenings carried out, the second
-- an expiry at the money; and another option price in the mark for its intraday session makes another list that is alike. Nor is the promise on
-- periods: a list has trades in both.
use mathlib.Core.Path.{◌≡◌, refl, sym, ap, ◌∙◌}
use mathlib.Core.Logic.{◌⊎◌, inl, inr}
use mathlib.Core.Bool.{Bool, true, ◌&&◌}
use mathlib.Core.List as list
use mathlib.Core.List.{[], ◌∷◌}
use Prim.Native.Nat.{ℕ, zero, suc, ◌<◌}
use native.Mathlib.Nat.{not-suc-le-zero}
use native.Mathlib.Decide.{ℕ_discrete}
use native.Mathlib.Omega.{arith}
use lib.Dec.{lit<}
use lib.IntN.{pos, negsuc}
use Rattle.choice.specs.Choice.{choose}
use Rattle.exercise.specs.Assignment.{rank, assigned}
use Rattle.exercise.specs.Evening as exercise
use Rattle.exercise.specs.Exercise.{in_the_money, half, automatic, exercised}
use Rattle.integer.specs.Sum.{sumℕ, sum_to}
use Rattle.integer.specs.Table.{at, table}
use Rattle.margin.specs.Margin.{signed, cost, cost_in}
use Rattle.places.specs.Places.{place_in, of_account, gross}
use Rattle.series.specs.declared.event.Deal.{Deal}
use Rattle.series.specs.Conditions.{gross_after, passes_limit}
use Rattle.terms.specs.declared.Category.TheVariants.{American}
use Rattle.terms.specs.declared.OptionType.TheVariants.{Call}
use Rattle.value.specs.Rounding.{nearest}
use Rattle.book.specs.Answers.{was_carried_out}
use Rattle.book.specs.Sessions.{intraday_money_in, evening_margin_in, evening_money_in, intraday_money, evening_money}
use Rattle.book.specs.State.{empty_book, futures, cash}
use Rattle.book.specs.Step.{period_of, decided, step_of, run, after}
use Rattle.book.specs.Verdicts.{and_then, first_from, needs_mark}
use Rattle.book.specs.declared.state.Book.{Book}
use Rattle.book.specs.declared.state.Event.{Event}
use Rattle.book.specs.declared.state.Event.TheVariants.{List, Trade, Mark, Intraday, Evening}
use Rattle.book.proofs.Live.{both_true}
use Rattle.book.proofs.Periods.{not_both}
use Rattle.reckoning.specs.Demand.{event_at, carried_at, CarriedOut, OtherMark, Alike, is_mark, up_to}
use Rattle.reckoning.specs.Periods.{AfterIntraday, period_at}
use Rattle.reckoning.proofs.Demand.{demand_3}
use Rattle.reckoning.proofs.Periods.{periods}

-- the list of the example, with the option price p in the mark for its intraday session
abbrev mark : ℕ → ℕ → Event
mark option future = Mark (record { series = 0; option = option; future = future; tick_value = 100000 })

abbrev pub example : ℕ → list.List Event
example p =
    List (record { option = Call; category = American; strike = 1700000; tick = 100; last_day = 1 })
    ∷ Trade (record { series = 0; buyer = 1; seller = 2; quantity = 10; price = 15000; buyer_section = 0; seller_section = 0 })
    ∷ mark p 1702000
    ∷ Intraday
    ∷ mark 15500 1700000
    ∷ Evening
    ∷ mark 0 1700000
    ∷ Evening
    ∷ []

-- what is opened to compute with the rules
rules : Unit {0}
unfolding choose sum_to sumℕ table place_in of_account gross gross_after signed cost cost_in nearest in_the_money half automatic exercised rank assigned exercise.shrunk exercise.futures exercise.remaining exercise.arisen passes_limit was_carried_out and_then first_from needs_mark intraday_money_in evening_margin_in evening_money_in intraday_money evening_money decided run
rules = tt

-- a test at each number below n
all_below : ℕ → (ℕ → Bool) → Bool
all_below zero f = true
all_below (suc n) f = all_below n f && f n

at_below : (n : ℕ) (f : ℕ → Bool) → all_below n f ≡ true → (k : ℕ) → k < n → f k ≡ true
unfolding all_below
at_below zero f e k h = absurd (not-suc-le-zero h)
at_below (suc n) f e k h = by (ℕ_discrete k n) (λ l. at_below n f (both_true (all_below n f) (f n) e).first k l)
  where
    by : Dec (k ≡ n) → (k < n → f k ≡ true) → f k ≡ true
    by (yes q) rest = rw q (both_true (all_below n f) (f n) e).second
    by (no q) rest = rest (omega arith)

-- each of the events is carried out
all_carried : (i : ℕ) → i < 8 → carried_at empty_book (example 16000) i ≡ true
unfolding rules all_below
all_carried i h = at_below 8 (carried_at empty_book (example 16000)) refl i h

others_carried : (i : ℕ) → i < 8 → carried_at empty_book (example 16100) i ≡ true
unfolding rules all_below
others_carried i h = at_below 8 (carried_at empty_book (example 16100)) refl i h

carried : (e : Event) (i : ℕ) → i < 8 → event_at (example 16000) i ≡ e → CarriedOut empty_book (example 16000) e i
carried e i h q = record { within = h; event = q; carried = rw (all_carried i h) tt }

other_mark : OtherMark empty_book (example 16000) (example 16100) 2
unfolding is_mark
other_mark =
    record {
      mark = tt;
      other = tt;
      for_intraday = record {
        session = 3;
        later = lit< tt;
        intraday = carried Intraday 3 (lit< tt) refl;
        no_intraday_before = λ k h l C. none k h l;
        no_evening_before = λ k h l C. none k h l;
      };
    }
  where
    none : (k : ℕ) → 2 < k → k < 3 → ⊥
    none k h l = omega arith

pub record Witnessed : Type 0 where
  pub intraday : CarriedOut empty_book (example 16000) Intraday 3
  pub evening : CarriedOut empty_book (example 16000) Evening 5
  pub expiry : CarriedOut empty_book (example 16000) Evening 7
  pub alike : Alike empty_book empty_book (example 16000) (example 16100)
  -- the intraday session pays the buyer of 10 contracts at 150.00 by the mark: 100.00 or 110.00 roubles
  pub intraday_money : at (step_of (after (up_to 2 (example 16000))) Intraday).money 1 ≡ pos 10000
  pub other_money : at (step_of (after (up_to 2 (example 16100))) Intraday).money 1 ≡ pos 11000
  -- what the evenings leave
  pub evening_cash : cash (after (up_to 5 (example 16000))) 1 ≡ pos 5000
  pub expiry_cash : cash (after (up_to 7 (example 16000))) 1 ≡ negsuc 149999
  -- half of 10 calls at the money
  pub holder_futures : futures (after (up_to 7 (example 16000))) 0 1 ≡ pos 5
  pub writer_futures : futures (after (up_to 7 (example 16000))) 0 2 ≡ negsuc 4

pub witnessed : Witnessed
unfolding rules
witnessed =
    record {
      intraday = carried Intraday 3 (lit< tt) refl;
      evening = carried Evening 5 (lit< tt) refl;
      expiry = carried Evening 7 (lit< tt) refl;
      alike = record { as_long = refl; carried = λ i h. all_carried i h ∙ sym (others_carried i h); alike = λ i h. by i };
      intraday_money = refl;
      other_money = refl;
      evening_cash = refl;
      expiry_cash = refl;
      holder_futures = refl;
      writer_futures = refl;
    }
  where
    by : (i : ℕ) → (event_at (example 16000) i ≡ event_at (example 16100) i) ⊎ OtherMark empty_book (example 16000) (example 16100) i
    by zero = inl refl
    by (suc zero) = inl refl
    by (suc (suc zero)) = inr other_mark
    by (suc (suc (suc i))) = inl refl

-- so the cash that the other list leaves is known by the demand, and not computed
pub other_cash : cash (after (up_to 7 (example 16100))) 1 ≡ negsuc 149999
other_cash =
    sym (ap (λ (b : Book). cash b 1) ((demand_3 (example 16000)).no_trace (example 16100) witnessed.alike 7 witnessed.expiry)) ∙ witnessed.expiry_cash

-- ---- a trade before an intraday session, one after it, and one on the next day
abbrev dealt : ℕ → ℕ → Deal
dealt buyer seller = record { series = 0; buyer = buyer; seller = seller; quantity = 10; price = 15000; buyer_section = 0; seller_section = 0 }

abbrev pub two_periods : list.List Event
two_periods =
    List (record { option = Call; category = American; strike = 1700000; tick = 100; last_day = 1 })
    ∷ Trade (dealt 1 2)
    ∷ mark 16000 1702000
    ∷ Intraday
    ∷ Trade (dealt 3 4)
    ∷ mark 15500 1700000
    ∷ Evening
    ∷ Trade (dealt 5 6)
    ∷ []

periods_carried : (i : ℕ) → i < 8 → carried_at empty_book two_periods i ≡ true
unfolding rules all_below
periods_carried i h = at_below 8 (carried_at empty_book two_periods) refl i h

in_periods : (e : Event) (i : ℕ) → i < 8 → event_at two_periods i ≡ e → CarriedOut empty_book two_periods e i
in_periods e i h q = record { within = h; event = q; carried = rw (periods_carried i h) tt }

pub record PeriodsWitnessed : Type 0 where
  pub before : CarriedOut empty_book two_periods (Trade (dealt 1 2)) 1
  pub first_period : period_at two_periods 1 ≡ 1
  pub behind : CarriedOut empty_book two_periods (Trade (dealt 3 4)) 4
  pub intraday : AfterIntraday two_periods 4
  pub second_period : period_at two_periods 4 ≡ 2
  pub next_day : CarriedOut empty_book two_periods (Trade (dealt 5 6)) 7
  pub again_first : period_at two_periods 7 ≡ 1

pub periods_witnessed : PeriodsWitnessed
unfolding rules period_of
periods_witnessed =
    record {
      before = in_periods (Trade (dealt 1 2)) 1 (lit< tt) refl;
      first_period = refl;
      behind = in_periods (Trade (dealt 3 4)) 4 (lit< tt) refl;
      intraday = record {
        session = 3;
        earlier = lit< tt;
        intraday = in_periods Intraday 3 (lit< tt) refl;
        no_evening_since = λ k h l C. none k h l;
      };
      second_period = refl;
      next_day = in_periods (Trade (dealt 5 6)) 7 (lit< tt) refl;
      again_first = refl;
    }
  where
    none : (k : ℕ) → 3 < k → k < 4 → ⊥
    none k h l = omega arith

-- so no intraday session came before the third trade on its day, by the promise
pub no_intraday_since : ¬ AfterIntraday two_periods 7
no_intraday_since A =
    not_both (period_at two_periods 7) periods_witnessed.again_first (((periods two_periods).kept 7 (dealt 5 6) periods_witnessed.next_day).second A)
