-- Sessions with no live series, and series without an intraday session (RULES, "Events" and "Evening session").
use Rattle.std.specs.Prelude.{None, Ok, Err}
use mathlib.Core.Path.{◌≡◌, refl, sym, ap, ◌∙◌}
use mathlib.Core.Logic.{◌≢◌}
use mathlib.Core.Bool.{false}
use Prim.Native.Nat.{ℕ, zero, suc, ◌≤◌, ◌<◌}
use native.Mathlib.Omega.{arith}
use lib.IntN.{ℤ, pos}
use borrow.Author.Tests.{le-ltb}
use Rattle.choice.specs.Choice.{choose}
use Rattle.choice.proofs.Chain.{past}
use Rattle.integer.specs.Table.{table}
use Rattle.integer.proofs.Sum.{sum_ext, sum_0}
use Rattle.integer.proofs.Table.{table_ext, replicate_table}
use Rattle.terms.specs.Bounds.{accounts, series_room, final_day}
use Rattle.series.specs.Refusals.{Verdict}
use Rattle.book.specs.Good.{Good}
use Rattle.book.specs.Sessions.{over_live, intraday_money_in, evening_money_in, intraday_money, evening_money, intraday_paid}
use Rattle.book.specs.State.{live, no_money}
use Rattle.book.specs.Step.{decided, step_of, carried_out}
use Rattle.book.specs.Verdicts.{first_from, verdict_of}
use Rattle.book.specs.declared.state.Answer.{Answer}
use Rattle.book.specs.declared.state.Answer.TheVariants as answer
use Rattle.book.specs.declared.state.Book.{Book}
use Rattle.book.specs.declared.state.Event.{Event}
use Rattle.book.specs.declared.state.Event.TheVariants.{List, Trade, Exercise, Decline, Mark, Intraday, Evening}
use Rattle.book.specs.declared.state.Step.{Step}
use Rattle.book.proofs.Allowed.{allowed_list}
use Rattle.book.proofs.Live.{live_unlisted}
use Rattle.book.proofs.Decided.{none_missing}
use Rattle.book.proofs.Payments.{none_paid_lem}

-- ---- "With no live series both are carried out and pay nothing."

abbrev pub NoneLive : Book → Type 0
NoneLive b = (i : ℕ) → live b i ≡ false

-- carried out, and nobody is paid
pub record PaysNothing (st : Step) : Type 0 where
  pub answer : st.answer ≡ answer.Done
  pub money : st.money ≡ no_money

-- no series lacks a mark
none_lacks : (b : Book) → NoneLive b → (n i : ℕ) → first_from b n i ≡ None
unfolding first_from choose
none_lacks b none zero i = refl
none_lacks b none (suc n) i = rw (none i) (none_lacks b none n (suc i))

-- and a sum over the live series is 0
nothing_live : (b : Book) → NoneLive b → (f : ℕ → ℤ) → over_live b f ≡ pos 0
unfolding choose
nothing_live b none f = sum_ext series_room _ _ (λ i _. rw (none i) refl) ∙ sum_0 series_room

no_money_lem : (f : ℕ → ℤ) → ((a : ℕ) → f a ≡ pos 0) → table accounts f ≡ no_money
no_money_lem f e = table_ext accounts _ _ (λ a _. e a) ∙ sym (replicate_table accounts (pos 0))

module _ (b : Book) (open-day : b.day ≤ final_day) (none : NoneLive b) where
  intraday_allowed : b.intraday_done ≡ false → verdict_of b Intraday ≡ Ok tt
  intraday_allowed first =
      sym (past _ (le-ltb final_day b.day open-day) (past _ first (none_missing refl (none_lacks b none b.listed 0))))

  evening_allowed : verdict_of b Evening ≡ Ok tt
  evening_allowed = sym (past _ (le-ltb final_day b.day open-day) (none_missing refl (none_lacks b none b.listed 0)))

  pub intraday_pays_nothing : b.intraday_done ≡ false → PaysNothing (step_of b Intraday)
  unfolding decided intraday_money
  intraday_pays_nothing first =
      rw (intraday_allowed first)
      (record { answer = refl; money = no_money_lem (intraday_money b) (λ a. nothing_live b none (λ i. intraday_money_in b i a)) })

  pub evening_pays_nothing : PaysNothing (step_of b Evening)
  unfolding decided evening_money
  evening_pays_nothing =
      rw evening_allowed
      (record { answer = refl; money = no_money_lem (evening_money b) (λ a. nothing_live b none (λ i. evening_money_in b i a)) })

-- ---- "VM1 = 0 if there was no intraday session for that series": what the evening takes away for it is 0

-- before the day's intraday session, for every series
pub before_an_intraday : (b : Book) → Good b → b.intraday_done ≡ false → (i a : ℕ) → intraday_paid b i a ≡ pos 0
before_an_intraday b g first = none_paid_lem b (g.fresh first)

-- a series that is listed on the day, after its intraday session or before
pub listed_since : (b : Book) → Good b → (e : Event) (i : ℕ) → (step_of b e).answer ≡ answer.Listed i → (a : ℕ) → a < accounts
    → intraday_paid (step_of b e).book i a ≡ pos 0
unfolding decided
listed_since b g e i p a lt = by (verdict_of b e) refl p
  where
    number : Answer → ℕ
    number answer.Done = suc i
    number (answer.Listed k) = k
    number (answer.Traded p) = suc i
    number (answer.Refused why) = suc i

    other : suc i ≡ i → ⊥
    other q = omega arith

    carried : (e : Event) → verdict_of b e ≡ Ok tt → (carried_out b e).answer ≡ answer.Listed i → intraday_paid (carried_out b e).book i a ≡ pos 0
    carried (List n) v q =
        rw (← ap number q) (g.paid_live b.listed a (allowed_list b n v).room lt (live_unlisted b b.listed (omega arith)))
    carried (Trade d) v r = absurd (other (ap number r))
    carried (Exercise q) v r = absurd (other (ap number r))
    carried (Decline w) v r = absurd (other (ap number r))
    carried (Mark q) v r = absurd (other (ap number r))
    carried Intraday v r = absurd (other (ap number r))
    carried Evening v r = absurd (other (ap number r))

    by : (v : Verdict) → verdict_of b e ≡ v → (decided b e v).answer ≡ answer.Listed i → intraday_paid (decided b e v).book i a ≡ pos 0
    by (Ok tt) v q = carried e v q
    by (Err why) v q = absurd (other (ap number q))

-- and no event but a session changes it
pub only_sessions_pay : (b : Book) (e : Event) → e ≢ Intraday → e ≢ Evening → (step_of b e).book.intraday_paid ≡ b.intraday_paid
unfolding decided
only_sessions_pay b e n m = by (verdict_of b e)
  where
    carried : (e : Event) → e ≢ Intraday → e ≢ Evening → (carried_out b e).book.intraday_paid ≡ b.intraday_paid
    carried (List new) n m = refl
    carried (Trade d) n m = refl
    carried (Exercise q) n m = refl
    carried (Decline w) n m = refl
    carried (Mark q) n m = refl
    carried Intraday n m = absurd (n refl)
    carried Evening n m = absurd (m refl)

    by : (v : Verdict) → (decided b e v).book.intraday_paid ≡ b.intraday_paid
    by (Ok tt) = carried e n m
    by (Err why) = refl
