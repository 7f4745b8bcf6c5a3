-- `strike::put_text` meets its contract.
use native.Mathlib.Omega.{arith}
use Rattle.contract.proofs.StrikeField.{length_strike}
use Rattle.decimal.proofs.Putting.{puts}
use Rattle.strike.proofs.put_text.Goals as goal

pub digits-next-requires : goal.digits-next-requires
digits-next-requires c = omega (arith, length_strike c.args.strike)

pub put_hundredths-requires : goal.put_hundredths-requires
put_hundredths-requires c = (omega (arith, length_strike c.args.strike), omega arith)

pub returns : goal.returns
returns c = search puts
