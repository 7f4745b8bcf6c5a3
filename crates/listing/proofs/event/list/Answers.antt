-- `listing::event::list` meets its contract: the step by the verdict.
use mathlib.Core.Path.{◌≡◌, sym, ap, ◌∙◌}
use Prim.Native.Nat.{◌+◌}
use native.Mathlib.Omega.{arith}
use Rattle.book.specs.State.{no_money, today_of, with_listed, with_series}
use Rattle.book.specs.Verdicts.{list_verdict}
use Rattle.book.specs.declared.state.Today.{Today}
use Rattle.book.specs.declared.state.Answer.TheVariants.{Listed}
use Rattle.book.specs.declared.state.Event.TheVariants.{List}
use Rattle.book.proofs.Allowed.{ListAllowed, list_allowed}
use Rattle.book.proofs.Decided.{by_refusal, by_allowance, verdict_is}
use Rattle.listing.proofs.event.list.Goals.{After-list_verdict, In_default}
use Rattle.listing.proofs.event.list.Goals as goal

-- the verdict is of the book's day
judged : (c : After-list_verdict) → c.list_verdict.result ≡ list_verdict (today_of c.args.book) c.args.new
judged c = c.list_verdict.ensures ∙ ap (λ (t : Today). list_verdict t c.args.new) c.today_of-today.ensures

-- the terms are allowed
allowed : (c : In_default) → ListAllowed (today_of c.args.book) c.args.new
allowed c =
    list_allowed (today_of c.args.book) c.args.new (sym (judged c.before) ∙ c.in_default.is)

pub returns-in-Err : goal.returns-in-Err
returns-in-Err c = by_refusal _ (List c.args.new) c.refused.ensures (verdict_is (judged (goal.at.returns-in-Err c).After-list_verdict) c.in-Err.is)

pub overflow_cast-listing : goal.overflow_cast-listing
overflow_cast-listing c = omega (arith, (allowed c.before).strike_most)

pub overflow_cast-listing-2 : goal.overflow_cast-listing-2
overflow_cast-listing-2 c = omega (arith, (allowed c.before.before).tick_most)

pub overflow_cast-listing-3 : goal.overflow_cast-listing-3
overflow_cast-listing-3 c = omega (arith, (allowed c.before.before.before).last_most)

pub offset_bounds-book-n : goal.offset_bounds-book-n
offset_bounds-book-n c = omega (arith, (allowed c.before.before.before.before).room)

pub bounds-book-n : goal.bounds-book-n
bounds-book-n c = (allowed c.before.before.before.before).room

pub overflow_add-book : goal.overflow_add-book
overflow_add-book c = omega (arith, (allowed c.before.before.before.before).room)

pub overflow_cast-result : goal.overflow_cast-result
overflow_cast-result c = omega (arith, (allowed c.before.before.before.before).room)

pub returns : goal.returns
returns c =
    let k = c.args.book in
    by_allowance _ (List c.args.new)
    (λ i. record {
      answer = Listed k.listed;
      money = no_money;
      book = with_listed (with_series k k.listed (c.new_series-s.ensures i)) (k.listed + 1);
    })
    (verdict_is (judged (goal.at.returns c).After-list_verdict) c.in_default.is)
