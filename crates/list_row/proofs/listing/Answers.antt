-- `list_row::listing` meets its contract.
use mathlib.Core.Path.{ap, ◌≡◌, ◌∙◌}
use Rattle.rows.proofs.Readers.{code_terms, code_refused}
use Rattle.rows.specs.Row.{listing}
use Rattle.std.specs.Prelude.{Ok, Err}
use Rattle.rows.specs.declared.types.Refusal.TheVariants as refusal
use Rattle.list_row.proofs.Told.{told_ok, told_err}
use Rattle.std.proofs.lemmas.Result.{err_from_is_err_and}
use Rattle.list_row.proofs.listing.Goals as goal

pub returns-in_err-said : goal.returns-in_err-said
unfolding listing
returns-in_err-said c =
    let p = told_err _ _ _ _ c.map_err.ensures.cases c.in_err-said.was in
    let q = err_from_is_err_and c.from_residual.result c.from_residual.ensures.1 in
    let z : c.in_err-said.field-0.0 ≡ refusal.Code p.0 = p.2 in
    let e : c.from_residual.result ≡ Err (refusal.Code p.0) = q.1 ∙ ap (λ x. Err x) (q.2 ∙ z) in
    code_refused _ _ _ _ _ p.0 c.read.ensures p.1 e

pub returns : goal.returns
unfolding listing
returns c =
    let p = told_ok _ _ _ _ c.map_err.ensures.cases c.in_ok-said.was in
    code_terms _ _ _ _ _ c.in_ok-said.said c.read.ensures p (ap (λ e. Ok e) c.list_event.ensures)
