-- Which period it is after an event, what a trade's record and answer say of it, and that records of the day stand (RULES, "Events").
use Rattle.std.specs.Prelude.{Some, None, Ok, Err}
use mathlib.Core.Path.{◌≡◌, refl, sym, ap, ◌∙◌}
use mathlib.Core.Logic.{◌≢◌}
use mathlib.Core.Bool.{Bool, true, false}
use Prim.Native.Nat.{ℕ, ◌<◌}
use native.Mathlib.Omega.{arith}
use lib.Dec.{T}
use lib.Seq.{get_or-set_same, get_or-set_other}
use Rattle.choice.specs.Choice.{choose}
use Rattle.margin.specs.Margin.{no_trade}
use Rattle.series.specs.declared.event.Deal.{Deal}
use Rattle.series.specs.Refusals.{Verdict}
use Rattle.book.specs.Answers.{answer_number, was_carried_out, period_told}
use Rattle.book.specs.Good.{Good}
use Rattle.book.specs.State.{trade_at}
use Rattle.book.specs.Step.{period_of, record_of, decided, step_of, carried_out}
use Rattle.book.specs.Verdicts.{verdict_of}
use Rattle.book.specs.declared.state.Answer.TheVariants as answer
use Rattle.book.specs.declared.state.Book.{Book}
use Rattle.book.specs.declared.state.Event.{Event}
use Rattle.book.specs.declared.state.Event.TheVariants.{List, Trade, Exercise, Decline, Mark, Intraday, Evening}
use Rattle.book.specs.declared.state.Step.{Step}
use Rattle.book.proofs.Allowed.{allowed_trade}
use Rattle.book.proofs.Decided.{carried_answer}
use Rattle.book.proofs.Live.{false_not_true}

-- ---- "2 in just the case that an intraday session of that day came before it, and 1 otherwise"
pub second_period : {intradayDone : Bool} → intradayDone ≡ true → period_of intradayDone ≡ 2
unfolding period_of choose
second_period e = rw e refl

pub first_period : {intradayDone : Bool} → intradayDone ≡ false → period_of intradayDone ≡ 1
unfolding period_of choose
first_period e = rw e refl

pub not_both : (period : ℕ) → period ≡ 1 → period ≡ 2 → ⊥
not_both period first second = omega arith

pub second_only : (intradayDone : Bool) → period_of intradayDone ≡ 2 → intradayDone ≡ true
unfolding period_of choose
second_only true p = refl
second_only false p = absurd (not_both 1 refl p)

-- ---- whether the day's intraday session is over, after an event and whether it was carried out
unfoldable pub over_after : Event → Bool → Bool → Bool
over_after e false over = over
over_after (List n) true over = over
over_after (Trade d) true over = over
over_after (Exercise r) true over = over
over_after (Decline w) true over = over
over_after (Mark q) true over = over
over_after Intraday true over = true
over_after Evening true over = false

pub over_after_lem : (b : Book) (e : Event) → (step_of b e).book.intraday_done ≡ over_after e (was_carried_out (step_of b e).answer) b.intraday_done
unfolding decided was_carried_out over_after
over_after_lem b e = by (verdict_of b e)
  where
    carried : (e : Event) → (carried_out b e).book.intraday_done ≡ over_after e true b.intraday_done
    carried (List n) = refl
    carried (Trade d) = refl
    carried (Exercise r) = refl
    carried (Decline w) = refl
    carried (Mark q) = refl
    carried Intraday = refl
    carried Evening = refl

    by : (v : Verdict) → (decided b e v).book.intraday_done ≡ over_after e (was_carried_out (decided b e v).answer) b.intraday_done
    by (Ok tt) = rw (carried_answer b e) (carried e)
    by (Err why) = refl

-- an event that leaves it is no session of that kind
pub no_intraday : (e : Event) → over_after e true false ≡ false → e ≢ Intraday
unfolding over_after
no_intraday e p q = false_not_true (sym p ∙ ap (λ (s : Event). over_after s true false) q)

pub no_evening : (e : Event) → over_after e true true ≡ true → e ≢ Evening
unfolding over_after
no_evening e p q = false_not_true (sym (ap (λ (s : Event). over_after s true true) q) ∙ p)

-- ---- a trade that was carried out
pub record Joined (b : Book) (d : Deal) (st : Step) : Type 0 where
  pub entry : trade_at st.book b.trades ≡ record_of b.intraday_done d
  pub answer : st.answer ≡ answer.Traded (period_of b.intraday_done)
  pub number : answer_number st.answer ≡ 0
  pub told : period_told st.answer ≡ Some (period_of b.intraday_done)
  pub counted : b.trades < st.book.trades

pub trade_joined : (b : Book) → Good b → (d : Deal) → T (was_carried_out (step_of b (Trade d)).answer) → Joined b d (step_of b (Trade d))
unfolding decided was_carried_out answer_number period_told
trade_joined b g d = by (verdict_of b (Trade d)) refl
  where
    by : (v : Verdict) → verdict_of b (Trade d) ≡ v → T (was_carried_out (decided b (Trade d) v).answer) → Joined b d (decided b (Trade d) v)
    by (Ok tt) v t =
        record {
          entry = get_or-set_same b.blotter b.trades (record_of b.intraday_done d) no_trade (omega (arith, g.blotter_long, (allowed_trade b d v).room));
          answer = refl;
          number = refl;
          told = refl;
          counted = omega arith;
        }
    by (Err why) v t = absurd t

-- ---- no other answer tells a period: none of an event that is no trade, none of an event that is refused
pub others_tell_none : (b : Book) (e : Event) → ((d : Deal) → e ≢ Trade d) → period_told (step_of b e).answer ≡ None
unfolding decided period_told
others_tell_none b e m = by (verdict_of b e)
  where
    carried : (e : Event) → ((d : Deal) → e ≢ Trade d) → period_told (carried_out b e).answer ≡ None
    carried (List n) m = refl
    carried (Trade d) m = absurd (m d refl)
    carried (Exercise r) m = refl
    carried (Decline w) m = refl
    carried (Mark q) m = refl
    carried Intraday m = refl
    carried Evening m = refl

    by : (v : Verdict) → period_told (decided b e v).answer ≡ None
    by (Ok tt) = carried e m
    by (Err why) = refl

pub refusals_tell_none : (b : Book) (e : Event) → was_carried_out (step_of b e).answer ≡ false → period_told (step_of b e).answer ≡ None
unfolding decided period_told
refusals_tell_none b e = by (verdict_of b e)
  where
    by : (v : Verdict) → was_carried_out (decided b e v).answer ≡ false → period_told (decided b e v).answer ≡ None
    by (Ok tt) h = absurd (false_not_true (sym h ∙ carried_answer b e))
    by (Err why) h = refl

-- ---- a record of the day stands: an event that is no evening, or is refused, leaves it where it is
pub record Stands (b c : Book) (k : ℕ) : Type 0 where
  pub today : k < c.trades
  pub same : trade_at c k ≡ trade_at b k

pub record_stands : (b : Book) (e : Event) → (e ≡ Evening → T (was_carried_out (step_of b e).answer) → ⊥) → (k : ℕ) → k < b.trades
    → Stands b (step_of b e).book k
unfolding decided was_carried_out
record_stands b e none k lt = by (verdict_of b e) none
  where
    carried : (e : Event) → (e ≡ Evening → ⊥) → Stands b (carried_out b e).book k
    carried (List n) m = record { today = lt; same = refl }
    carried (Trade d) m =
        record {
          today = omega arith;
          same = get_or-set_other b.blotter b.trades k (record_of b.intraday_done d) no_trade (λ q. omega arith);
        }
    carried (Exercise r) m = record { today = lt; same = refl }
    carried (Decline w) m = record { today = lt; same = refl }
    carried (Mark q) m = record { today = lt; same = refl }
    carried Intraday m = record { today = lt; same = refl }
    carried Evening m = absurd (m refl)

    by : (v : Verdict) → (e ≡ Evening → T (was_carried_out (decided b e v).answer) → ⊥) → Stands b (decided b e v).book k
    by (Ok tt) m = carried e (λ q. m q (rw (carried_answer b e) tt))
    by (Err why) m = record { today = lt; same = refl }
