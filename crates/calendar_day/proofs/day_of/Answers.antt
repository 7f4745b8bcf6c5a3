-- `calendar_day::day_of` meets its contract.
use mathlib.Core.Path.{◌≡◌, sym, ◌∙◌}
use Rattle.std.proofs.Common.{rules, tests}
use Rattle.std.proofs.lemmas.Iterator.{YieldsList-from_slice}
use Rattle.std.proofs.lemmas.Iterator.Search.{position_from_yields_List}
use Rattle.std.proofs.lemmas.Iterator.Adapters.{position_from-zero}
use Rattle.calendar.specs.Days.{same_date, date_of, dates_of, day_of}
use Rattle.calendar_day.proofs.Search.{searched}
use Rattle.calendar_day.proofs.day_of.Goals as goal

pub returns-in_err-place : goal.returns-in_err-place
returns-in_err-place c =
    let found : c.position.result ≡ day_of (dates_of c.args.calendar.now) c.args.date =
    position_from_yields_List (λ n. same_date (date_of n) c.args.date) _ _ c.position.result c.position.ensures.ran
    (YieldsList-from_slice _ c.iter.ensures.rest) (λ x b q k. search (rules, tests))
    ∙ position_from-zero (λ n. same_date (date_of n) c.args.date) c.args.calendar.now
    ∙ searched c.args.date 0 c.args.calendar.now in
    c.from_residual.ensures ∙ sym c.in_err-place.was ∙ found

pub returns : goal.returns
returns c =
    let found : c.position.result ≡ day_of (dates_of c.args.calendar.now) c.args.date =
    position_from_yields_List (λ n. same_date (date_of n) c.args.date) _ _ c.position.result c.position.ensures.ran
    (YieldsList-from_slice _ c.iter.ensures.rest) (λ x b q k. search (rules, tests))
    ∙ position_from-zero (λ n. same_date (date_of n) c.args.date) c.args.calendar.now
    ∙ searched c.args.date 0 c.args.calendar.now in
    sym c.in_ok-place.was ∙ found
