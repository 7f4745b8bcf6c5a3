-- `row_reader::kind::mark` meets its contract.
use Rattle.rows.proofs.Readers.{fields}
use Rattle.rows.specs.Row.{mark_row}
use Rattle.row_reader.proofs.kind.mark.Goals as goal

pub returns-in_default : goal.returns-in_default
unfolding mark_row
returns-in_default c = search fields depth 12

pub returns-in_default-number : goal.returns-in_default-number
unfolding mark_row
returns-in_default-number c = search fields depth 12

pub returns-in_default-number-2 : goal.returns-in_default-number-2
unfolding mark_row
returns-in_default-number-2 c = search fields depth 12

pub returns-in_default-number-3 : goal.returns-in_default-number-3
unfolding mark_row
returns-in_default-number-3 c = search fields depth 12

pub returns : goal.returns
unfolding mark_row
returns c = search fields depth 12
