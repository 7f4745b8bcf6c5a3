-- `code::verdict` meets its contract.
use Rattle.std.proofs.lemmas.Result.{err_from_is_err_and}
use Rattle.contract.proofs.Steps.{date_refuses, date_passes}
use Rattle.code.proofs.verdict.Goals as goal

pub returns-in_err-verdict : goal.returns-in_err-verdict
returns-in_err-verdict c =
    let p = err_from_is_err_and c.from_residual.result c.from_residual.ensures.1 in
    rw (p.1, p.2) (date_refuses _ _ c.verdict.ensures _ c.in_err-verdict.was)

pub returns : goal.returns
returns c = date_passes _ _ c.verdict.ensures _ _ c.in_ok-verdict.was c.verdict-2.ensures
