-- `scan::digit_at` meets its contract.
use mathlib.Core.Path.{sym}
use Rattle.decimal.proofs.Digits.{as_digit_past}
use Rattle.scan.proofs.digit_at.Goals as goal

pub returns-else-at-s : goal.returns-else-at-s
returns-else-at-s c = sym (search as_digit_past)
