-- `row_fields::short` meets its contract.
use Rattle.rows.proofs.Fields as field
use Rattle.row_fields.proofs.short.Goals as goal

pub returns-in_default : goal.returns-in_default
returns-in_default c = search field.short_none

pub overflow_sub-next : goal.overflow_sub-next
overflow_sub-next c = search field.short_place

pub returns-then-next-at-gt-MAX_DIGITS : goal.returns-then-next-at-gt-MAX_DIGITS
returns-then-next-at-gt-MAX_DIGITS c = search field.short_long

pub returns : goal.returns
returns c = search field.short_value
