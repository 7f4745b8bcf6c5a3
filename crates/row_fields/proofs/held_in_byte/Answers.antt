-- `row_fields::held_in_byte` meets its contract.
use Rattle.std.proofs.Common.{arith}
use Rattle.rows.specs.Field.{held_in_byte}
use Rattle.row_fields.proofs.held_in_byte.Goals as goal

pub returns : goal.returns
unfolding held_in_byte
returns c = grind arith
