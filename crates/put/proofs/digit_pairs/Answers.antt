-- `put::digit_pairs` meets its contract: the checker computes the test of the whole table.
use mathlib.Core.Path.{refl}
use Rattle.decimal.proofs.Pairs.{hundred_pairs}
use Rattle.put.proofs.digit_pairs.Goals as goal

pub returns : goal.returns
returns c = hundred_pairs _ refl
