-- `row_reader::kind::trade` meets its contract.
use Rattle.rows.proofs.Fields.{byte_value}
use Rattle.rows.proofs.Readers.{fields}
use Rattle.rows.specs.Row.{trade_row}
use Rattle.row_reader.proofs.kind.trade.Goals as goal

pub returns-in_default : goal.returns-in_default
unfolding trade_row
returns-in_default c = search fields depth 12

pub returns-in_default-byte : goal.returns-in_default-byte
unfolding trade_row
returns-in_default-byte c = search fields depth 12

pub returns-in_default-byte-2 : goal.returns-in_default-byte-2
unfolding trade_row
returns-in_default-byte-2 c = search fields depth 12

pub returns-in_default-number : goal.returns-in_default-number
unfolding trade_row
returns-in_default-number c = search fields depth 12

pub returns-in_default-number-2 : goal.returns-in_default-number-2
unfolding trade_row
returns-in_default-number-2 c = search fields depth 12

pub returns-in_default-sections : goal.returns-in_default-sections
unfolding trade_row
returns-in_default-sections c = search fields depth 12

-- `search` does not reach as far back as the first field: its step is written out
pub returns : goal.returns
unfolding trade_row
returns c =
    byte_value _ _ _ _ _ _ _ c.byte.ensures c.in-Some.is (search fields depth 12)
