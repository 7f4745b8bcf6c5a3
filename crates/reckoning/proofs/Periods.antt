-- In every list of events each trade that is carried out is recorded, and answered, with its period.
use Rattle.std.specs.Prelude.{Some}
use mathlib.Core.Path.{◌≡◌, refl, sym, ap, ◌∙◌}
use mathlib.Core.Logic.{◌≢◌}
use mathlib.Core.Bool.{Bool, true, false}
use mathlib.Core.List as list
use mathlib.Core.List.{[], ◌∷◌}
use Prim.Native.Nat.{ℕ, zero, suc, ◌≤◌, ◌<◌}
use native.Mathlib.Decide.{ℕ_discrete}
use native.Mathlib.Nat.{not-suc-le-zero}
use native.Mathlib.Omega.{arith}
use lib.ListN.{length, take}
use Rattle.margin.specs.Margin.{in_period}
use Rattle.margin.specs.declared.trade.Trade as trade_type
use Rattle.series.specs.declared.event.Deal.{Deal}
use Rattle.book.specs.State.{empty_book, trade_at}
use Rattle.book.specs.Step.{period_of, entry_of, record_of, step_of, run, after}
use Rattle.book.specs.declared.state.Book.{Book}
use Rattle.book.specs.declared.state.Event.{Event}
use Rattle.book.specs.declared.state.Event.TheVariants.{List, Trade, Exercise, Decline, Mark, Intraday, Evening}
use Rattle.book.proofs.Keeps.{good_after}
use Rattle.book.proofs.Live.{false_not_true}
use Rattle.book.proofs.Periods.{second_period, first_period, second_only, over_after, over_after_lem, no_intraday, no_evening, Joined, trade_joined, Stands, record_stands}
use Rattle.reckoning.specs.Demand.{event_at, carried_at, CarriedOut, up_to}
use Rattle.reckoning.specs.Periods.{AfterIntraday, joins_at, record_at, period_at, NoEvening, PeriodKept, Periods}

-- the book after the event at place i, by the book before it
run_next : (es : list.List Event) (b : Book) (i : ℕ) → i < length es → run b (up_to i es) ≡ (step_of (run b (take i es)) (event_at es i)).book
unfolding run
run_next [] b i h = absurd (not-suc-le-zero h)
run_next (e ∷ es) b zero h = refl
run_next (e ∷ es) b (suc i) h = run_next es (step_of b e).book i (omega arith)

-- whether the day's intraday session is over before place i
over_at : list.List Event → ℕ → Bool
over_at es i = (after (take i es)).intraday_done

-- it is in just the case that one came before it that day
record Over (es : list.List Event) (i : ℕ) : Type 0 where
  to : over_at es i ≡ true → AfterIntraday es i
  from : AfterIntraday es i → over_at es i ≡ true

module _ (es : list.List Event) (i : ℕ) where
  -- one place further, after an event that is no evening carried out,
  later : ¬ CarriedOut empty_book es Evening i → AfterIntraday es i → AfterIntraday es (suc i)
  later none A =
      record {
        session = A.session;
        earlier = omega (arith, A.earlier);
        intraday = A.intraday;
        no_evening_since = λ k h l C. by k h l C (ℕ_discrete k i);
      }
    where
      by : (k : ℕ) → A.session < k → k < suc i → CarriedOut empty_book es Evening k → Dec (k ≡ i) → ⊥
      by k h l C (yes q) = none (rw q at C)
      by k h l C (no q) = A.no_evening_since k h (omega arith) C

  -- and one place back, before an event that is no intraday session carried out
  back : ¬ CarriedOut empty_book es Intraday i → AfterIntraday es (suc i) → AfterIntraday es i
  back none A = by (ℕ_discrete A.session i)
    where
      by : Dec (A.session ≡ i) → AfterIntraday es i
      by (yes q) = absurd (none (rw q at A.intraday))
      by (no q) =
          record {
            session = A.session;
            earlier = omega (arith, A.earlier);
            intraday = A.intraday;
            no_evening_since = λ k h l. A.no_evening_since k h (omega arith);
          }

  -- an intraday session carried out at place i is the day's
  now : CarriedOut empty_book es Intraday i → AfterIntraday es (suc i)
  now C = record { session = i; earlier = omega arith; intraday = C; no_evening_since = λ k h l _. between k h l }
    where
      between : (k : ℕ) → i < k → k < suc i → ⊥
      between k h l = omega arith

  -- and an evening carried out there ends the day
  ended : CarriedOut empty_book es Evening i → AfterIntraday es (suc i) → ⊥
  unfolding over_after
  ended C A = by (ℕ_discrete A.session i)
    where
      by : Dec (A.session ≡ i) → ⊥
      by (yes q) = no_evening Intraday refl (sym (rw q at A.intraday).event ∙ C.event)
      by (no q) = A.no_evening_since i (omega (arith, A.earlier)) (omega arith) C

  module _ (h : i < length es) (O : Over es i) where
    over_next : Over es (suc i)
    unfolding over_at over_after
    over_next = by (event_at es i) (carried_at empty_book es i) refl refl (ap (λ (b : Book). b.intraday_done) (run_next es empty_book i h) ∙ over_after_lem (after (take i es)) (event_at es i))
      where
        keep : over_at es (suc i) ≡ over_at es i → ¬ CarriedOut empty_book es Intraday i → ¬ CarriedOut empty_book es Evening i → Over es (suc i)
        keep same no_intraday no_evening =
            record { to = λ p. later no_evening (O.to (sym same ∙ p)); from = λ A. same ∙ O.from (back no_intraday A) }

        other : (e : Event) → event_at es i ≡ e → over_at es (suc i) ≡ over_at es i → e ≢ Intraday → e ≢ Evening → Over es (suc i)
        other e q same m n = keep same (λ C. m (sym q ∙ C.event)) (λ C. n (sym q ∙ C.event))

        by : (e : Event) (x : Bool) → event_at es i ≡ e → carried_at empty_book es i ≡ x → over_at es (suc i) ≡ over_after e x (over_at es i) → Over es (suc i)
        by e false q c f = keep f (λ C. rw c at C.carried) (λ C. rw c at C.carried)
        by (List n) true q c f = other (List n) q f (no_intraday (List n) refl) (no_evening (List n) refl)
        by (Trade d) true q c f = other (Trade d) q f (no_intraday (Trade d) refl) (no_evening (Trade d) refl)
        by (Exercise r) true q c f = other (Exercise r) q f (no_intraday (Exercise r) refl) (no_evening (Exercise r) refl)
        by (Decline w) true q c f = other (Decline w) q f (no_intraday (Decline w) refl) (no_evening (Decline w) refl)
        by (Mark m) true q c f = other (Mark m) q f (no_intraday (Mark m) refl) (no_evening (Mark m) refl)
        by Intraday true q c f = record { to = λ _. now (record { within = h; event = q; carried = rw c tt }); from = λ _. f }
        by Evening true q c f =
            record {
              to = λ p. absurd (false_not_true (sym f ∙ p));
              from = λ A. absurd (ended (record { within = h; event = q; carried = rw c tt }) A);
            }

over : (es : list.List Event) (i : ℕ) → i ≤ length es → Over es i
unfolding over_at run
over es zero h = record { to = λ p. absurd (false_not_true p); from = λ A. absurd (not-suc-le-zero A.earlier) }
over es (suc i) h = over_next es i (omega arith) (over es i (omega arith))

module _ (es : list.List Event) (i : ℕ) (d : Deal) (C : CarriedOut empty_book es (Trade d) i) where
  -- the book after the trade
  traded : after (up_to i es) ≡ (step_of (after (take i es)) (Trade d)).book
  traded = run_next es empty_book i C.within ∙ ap (λ (e : Event). (step_of (after (take i es)) e).book) C.event

  joined : Joined (after (take i es)) d (step_of (after (take i es)) (Trade d))
  joined = trade_joined (after (take i es)) (good_after (take i es)) d (rw C.event at C.carried)

  its_record : record_at es i ≡ record_of (after (take i es)).intraday_done d
  its_record = ap (λ (b : Book). trade_at b (joins_at es i)) traded ∙ joined.entry

  its_period : period_at es i ≡ period_of (after (take i es)).intraday_done
  its_period = ap (λ (t : trade_type.Trade). t.period) its_record

  -- the record stands from there on
  StandsAfter : ℕ → Type 0
  StandsAfter j = Stands (after (up_to i es)) (after (up_to j es)) (joins_at es i)

  stands_here : (j : ℕ) → i ≡ j → StandsAfter j
  unfolding StandsAfter
  stands_here j q = rw (← q) (record { today = rw traded joined.counted; same = refl })

  stands_next : (j : ℕ) → i ≤ j → suc j < length es → NoEvening es i (suc j) → StandsAfter j → StandsAfter (suc j)
  unfolding StandsAfter
  stands_next j le h none S =
      let b = after (up_to j es) in
      let next = record_stands b (event_at es (suc j)) (λ q t. none (suc j) (omega arith) (omega arith) (record { within = h; event = q; carried = t })) (joins_at es i) S.today in
      rw (run_next es empty_book (suc j) h) (record { today = next.today; same = next.same ∙ S.same })

  stands_from : (j : ℕ) → i ≤ j → j < length es → NoEvening es i j → StandsAfter j
  stands_from zero le h none = stands_here zero (omega arith)
  stands_from (suc j) le h none = by (ℕ_discrete i (suc j)) (λ l. stands_from j l (omega arith) (λ k a b. none k a (omega arith)))
    where
      by : Dec (i ≡ suc j) → (i ≤ j → StandsAfter j) → StandsAfter (suc j)
      by (yes q) rest = stands_here (suc j) q
      by (no q) rest = stands_next j (omega arith) h none (rest (omega arith))

  period_kept : PeriodKept es i d
  unfolding over_at StandsAfter
  period_kept =
      record {
        its_own = its_record ∙ ap (λ (p : ℕ). in_period p (entry_of d)) (sym its_period);
        second = λ A. its_period ∙ second_period (its_day.from A);
        second_only = λ p. its_day.to (second_only (over_at es i) (sym its_period ∙ p));
        first = λ none. its_period ∙ first_period (not_over none (over_at es i) refl);
        number = joined.number;
        told = joined.told ∙ ap Some (sym its_period);
        today = λ j le h none. (stands_from j le h none).today;
        stands = λ j le h none. (stands_from j le h none).same;
      }
    where
      its_day : Over es i
      its_day = over es i (omega (arith, C.within))

      not_over : ¬ AfterIntraday es i → (x : Bool) → over_at es i ≡ x → over_at es i ≡ false
      not_over none true q = absurd (none (its_day.to q))
      not_over none false q = q

pub periods : (es : list.List Event) → Periods es
periods es = record { kept = period_kept es }
