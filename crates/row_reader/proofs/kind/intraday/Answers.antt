-- `row_reader::kind::intraday` meets its contract.
use borrow.Author.Rules.{rules}
use Rattle.rows.specs.Row.{intraday_row}
use Rattle.row_reader.proofs.kind.intraday.Goals as goal

pub returns : goal.returns
unfolding intraday_row
returns c = search rules
