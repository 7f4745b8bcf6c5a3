-- `list_row::dated_listing` meets its contract.
use mathlib.Core.Path.{ap, sym, ◌≡◌, ◌∙◌}
use Rattle.rows.proofs.Readers.{code_terms, code_refused, day_on, day_none}
use Rattle.rows.specs.Row.{dated_listing}
use Rattle.std.specs.Prelude.{ℕ, Some, None, Result, Ok, Err}
use Rattle.std.specs.Result.{result_ok}
use Rattle.std.specs.Option.{ok_or}
use Rattle.rows.specs.declared.types.Refusal.TheVariants as refusal
use Rattle.rows.specs.declared.types.Refusal.{Refusal}
use Rattle.list_row.proofs.Told.{told_ok, told_err, same_err}
use Rattle.std.proofs.lemmas.Result.{err_from_is_err_and}
use Rattle.list_row.proofs.dated_listing.Goals as goal

pub returns-in_err-dated : goal.returns-in_err-dated
unfolding dated_listing
returns-in_err-dated c =
    let p = told_err _ _ _ _ c.map_err.ensures.cases c.in_err-dated.was in
    let q = err_from_is_err_and c.from_residual.result c.from_residual.ensures.1 in
    let z : c.in_err-dated.field-0.0 ≡ refusal.Code p.0 = p.2 in
    let e : c.from_residual.result ≡ Err (refusal.Code p.0) = q.1 ∙ ap (λ x. Err x) (q.2 ∙ z) in
    code_refused _ _ _ _ _ p.0 c.read.ensures p.1 e

pub returns-in_err-last : goal.returns-in_err-last
unfolding dated_listing
returns-in_err-last c =
    let p = told_ok _ _ _ _ c.map_err.ensures.cases c.in_ok-dated.was in
    let q = err_from_is_err_and c.from_residual-in_err-last.result c.from_residual-in_err-last.ensures.1 in
    let n : c.day_of.result ≡ None = c.ok_or.ensures.ok_part ∙ ap (λ r. result_ok r) c.in_err-last.was in
    let z : ◌≡◌ {A = Result ℕ Refusal} (Err c.in_err-last.field-0.0) (Err refusal.NoTradingDate) =
    sym c.in_err-last.was ∙ c.ok_or.ensures.value ∙ ap (λ d. ok_or d refusal.NoTradingDate) n in
    let e : c.from_residual-in_err-last.result ≡ Err refusal.NoTradingDate = q.1 ∙ ap (λ x. Err x) (q.2 ∙ same_err _ _ z) in
    code_terms _ _ _ _ _ c.in_ok-dated.dated c.read.ensures p (day_none _ _ _ _ _ c.day_of.ensures n e)

pub returns : goal.returns
unfolding dated_listing
returns c =
    let p = told_ok _ _ _ _ c.map_err.ensures.cases c.in_ok-dated.was in
    let n : c.day_of.result ≡ Some c.in_ok-last.last = c.ok_or.ensures.ok_part ∙ ap (λ r. result_ok r) c.in_ok-last.was in
    code_terms _ _ _ _ _ c.in_ok-dated.dated c.read.ensures p
    (day_on _ _ _ _ _ c.in_ok-last.last c.day_of.ensures n (ap (λ e. Ok e) c.list_event.ensures))
