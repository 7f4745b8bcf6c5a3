-- `row_reader::read_row` meets its contract.
use Rattle.rows.proofs.Readers.{row_long, row_empty, row_letter, row_other}
use Rattle.rows.specs.Row.{by_letter}
use Rattle.choice.specs.Choice.{choose}
use Rattle.row_reader.proofs.read_row.Goals as goal

pub returns-then-s-gt-MAX_ROW : goal.returns-then-s-gt-MAX_ROW
returns-then-s-gt-MAX_ROW c = search row_long

pub returns-then-s-eq0 : goal.returns-then-s-eq0
returns-then-s-eq0 c = search row_empty

pub returns-in-76 : goal.returns-in-76
unfolding by_letter choose
returns-in-76 c = search row_letter

pub returns-in-84 : goal.returns-in-84
unfolding by_letter choose
returns-in-84 c = search row_letter

pub returns-in-88 : goal.returns-in-88
unfolding by_letter choose
returns-in-88 c = search row_letter

pub returns-in-68 : goal.returns-in-68
unfolding by_letter choose
returns-in-68 c = search row_letter

pub returns-in-77 : goal.returns-in-77
unfolding by_letter choose
returns-in-77 c = search row_letter

pub returns-in-73 : goal.returns-in-73
unfolding by_letter choose
returns-in-73 c = search row_letter

pub returns-in-86 : goal.returns-in-86
unfolding by_letter choose
returns-in-86 c = search row_letter

pub returns-in_default : goal.returns-in_default
returns-in_default c = search row_other
