-- `code::read` meets its contract.
use mathlib.Core.Path.{refl}
use Rattle.std.proofs.lemmas.Result.{err_from_is_err_and}
use Rattle.contract.proofs.WholeLayout.{answers, laid, is_accepted, is_refused}
use Rattle.contract.specs.Code.{read_code}
use Rattle.code.proofs.read.Goals as goal

pub returns-in_default : goal.returns-in_default
unfolding read_code
returns-in_default c = search answers

pub returns-in_err-verdict : goal.returns-in_err-verdict
unfolding read_code
returns-in_err-verdict c =
    let p = err_from_is_err_and c.from_residual.result c.from_residual.ensures.1 in
    rw (p.1, p.2)
    (laid _ _ _ _ _ _ c.fields.ensures c.in-Some.is (is_refused _ _ _ _ _ _ c.verdict.ensures c.in_err-verdict.was refl))

pub returns : goal.returns
unfolding read_code
returns c = laid _ _ _ _ _ _ c.fields.ensures c.in-Some.is (is_accepted _ _ _ _ _ _ c.verdict.ensures c.in_ok-verdict.was refl)
