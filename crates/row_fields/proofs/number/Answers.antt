-- `row_fields::number` meets its contract.
use Rattle.rows.proofs.Fields as field
use Rattle.row_fields.proofs.number.Goals as goal

pub returns-then-s-at : goal.returns-then-s-at
returns-then-s-at c = search field.number_past

pub returns-then-s-at-ne44 : goal.returns-then-s-at-ne44
returns-then-s-at-ne44 c = search field.number_no_comma

pub returns : goal.returns
returns c = search field.number_comma
