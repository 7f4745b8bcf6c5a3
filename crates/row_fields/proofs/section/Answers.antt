-- `row_fields::section` meets its contract.
use Rattle.rows.proofs.Fields as field
use Rattle.row_fields.proofs.section.Goals as goal

pub returns-then-at-s : goal.returns-then-at-s
returns-then-at-s c = search field.section_left_out

pub returns : goal.returns
returns c = search field.section_given
