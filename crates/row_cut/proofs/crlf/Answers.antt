-- `row_cut::crlf` meets its contract.
use Rattle.rows.proofs.Ends.{crlf_next, crlf_last, crlf_none}
use Rattle.row_cut.proofs.crlf.Goals as goal

pub returns-then-i-s : goal.returns-then-i-s
returns-then-i-s c = search crlf_next

pub returns-else-i-s : goal.returns-else-i-s
returns-else-i-s c = search (crlf_last, crlf_none)

pub returns-else-s-i-eq13 : goal.returns-else-s-i-eq13
returns-else-s-i-eq13 c = search (crlf_last, crlf_none)
