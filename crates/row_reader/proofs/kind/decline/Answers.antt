-- `row_reader::kind::decline` meets its contract.
use Rattle.rows.proofs.Readers.{fields}
use Rattle.rows.specs.Row.{decline_row}
use Rattle.row_reader.proofs.kind.decline.Goals as goal

pub returns-in_default : goal.returns-in_default
unfolding decline_row
returns-in_default c = search fields depth 12

pub returns-in_default-byte : goal.returns-in_default-byte
unfolding decline_row
returns-in_default-byte c = search fields depth 12

pub returns-in_default-section : goal.returns-in_default-section
unfolding decline_row
returns-in_default-section c = search fields depth 12

pub returns : goal.returns
unfolding decline_row
returns c = search fields depth 12
