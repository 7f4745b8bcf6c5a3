-- `scan::digit` meets its contract.
use Rattle.decimal.proofs.Digits.{digit_range, digit_below, digit_above}
use Rattle.scan.proofs.digit.Goals as goal

pub returns-in-48-to-57 : goal.returns-in-48-to-57
returns-in-48-to-57 c = search digit_range

pub returns-in_default : goal.returns-in_default
returns-in_default c = search digit_below

pub returns-in_default-2 : goal.returns-in_default-2
returns-in_default-2 c = search digit_above
