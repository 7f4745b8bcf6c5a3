-- `row_fields::byte` meets its contract.
use Rattle.decimal.proofs.Reading.{numeral_value, numeral_none}
use Rattle.rows.proofs.Fields.{byte_held}
use Rattle.rows.specs.Field.{byte_at}
use Rattle.row_fields.proofs.byte.Goals as goal

pub returns-in_default : goal.returns-in_default
unfolding byte_at
returns-in_default c = search numeral_none

pub returns : goal.returns
unfolding byte_at
returns c = search (numeral_value, byte_held)
