-- `row_fields::sections` meets its contract.
use Rattle.decimal.proofs.Reading.{numeral_value, numeral_none}
use Rattle.rows.proofs.Fields as field
use Rattle.row_fields.proofs.sections.Goals as goal

pub returns-then-at-s : goal.returns-then-at-s
returns-then-at-s c = search field.sections_left_out

pub returns-in_default : goal.returns-in_default
returns-in_default c = search (field.sections_given, numeral_none)

pub returns-in_default-number : goal.returns-in_default-number
returns-in_default-number c = search (field.sections_given, numeral_value, numeral_none) depth 12

pub returns : goal.returns
returns c = search (field.sections_given, numeral_value) depth 12
