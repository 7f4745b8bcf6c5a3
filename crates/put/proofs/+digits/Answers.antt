-- `put::digits` meets its contract.
use Rattle.std.proofs.Common.{arith}
use Rattle.decimal.proofs.Putting as putting
use Rattle.decimal.proofs.Numerals.{length_small, length_two, length_more}
use Rattle.put.proofs.+digits.Goals as goal

pub digits-next-requires : goal.digits-next-requires
digits-next-requires t c = (omega arith, omega (arith, length_more c.args.n (omega arith)))

pub two_digits-requires : goal.two_digits-requires
two_digits-requires t c = (omega (arith, length_more c.args.n (omega arith)), omega arith)

pub returns-then-n-ge-PAIRS : goal.returns-then-n-ge-PAIRS
returns-then-n-ge-PAIRS t c = search putting.digits_more

pub two_digits-requires-then-n-ge10 : goal.two_digits-requires-then-n-ge10
two_digits-requires-then-n-ge10 t c = (omega (arith, length_two c.args.n (omega arith) (omega arith)), omega arith)

pub returns-then-n-ge10 : goal.returns-then-n-ge10
returns-then-n-ge10 t c = search putting.digits_two

pub byte-requires : goal.byte-requires
byte-requires t c = omega (arith, length_small c.args.n (omega arith))

pub returns : goal.returns
returns t c = search putting.digits_one
