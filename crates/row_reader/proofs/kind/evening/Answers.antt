-- `row_reader::kind::evening` meets its contract.
use borrow.Author.Rules.{rules}
use Rattle.rows.specs.Row.{evening_row}
use Rattle.row_reader.proofs.kind.evening.Goals as goal

pub returns : goal.returns
unfolding evening_row
returns c = search rules
