-- `row_reader::kind::exercise` meets its contract.
use Rattle.rows.proofs.Readers.{fields}
use Rattle.rows.specs.Row.{exercise_row}
use Rattle.row_reader.proofs.kind.exercise.Goals as goal

pub returns-in_default : goal.returns-in_default
unfolding exercise_row
returns-in_default c = search fields depth 12

pub returns-in_default-byte : goal.returns-in_default-byte
unfolding exercise_row
returns-in_default-byte c = search fields depth 12

pub returns-in_default-number : goal.returns-in_default-number
unfolding exercise_row
returns-in_default-number c = search fields depth 12

pub returns-in_default-section : goal.returns-in_default-section
unfolding exercise_row
returns-in_default-section c = search fields depth 12

pub returns : goal.returns
unfolding exercise_row
returns c = search fields depth 12
