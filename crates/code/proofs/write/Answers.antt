-- `code::write` meets its contract.
use Rattle.std.proofs.lemmas.Result.{err_from_is_err_and}
use Rattle.contract.proofs.Writing.{write_refused, write_room, write_digits, write_done}
use Rattle.code.proofs.write.Goals as goal

pub returns-in_err-write_verdict : goal.returns-in_err-write_verdict
returns-in_err-write_verdict c =
    let p = err_from_is_err_and c.from_residual.result c.from_residual.ensures.1 in
    rw (p.1, p.2) (write_refused _ _ _ c.write_verdict.ensures _ c.in_err-write_verdict.was)

pub put_code-len-requires : goal.put_code-len-requires
put_code-len-requires c =
    (write_room _ _ _ c.write_verdict.ensures c.in_ok-write_verdict.was, write_digits _ _ _ c.write_verdict.ensures c.in_ok-write_verdict.was)

pub returns : goal.returns
returns c = write_done _ _ _ c.write_verdict.ensures _ _ c.in_ok-write_verdict.was c.put_code-len.ensures
