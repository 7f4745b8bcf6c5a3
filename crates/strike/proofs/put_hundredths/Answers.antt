-- `strike::put_hundredths` meets its contract.
use native.Mathlib.Omega.{arith}
use Rattle.contract.proofs.StrikeField as field
use Rattle.strike.proofs.put_hundredths.Goals as goal

pub returns-then-part-eq0 : goal.returns-then-part-eq0
returns-then-part-eq0 c = search field.put_none

pub byte-i-requires : goal.byte-i-requires
byte-i-requires c = omega (arith, field.length_one _ c.if-part-eq0.false)

pub byte-j-requires : goal.byte-j-requires
byte-j-requires c = omega (arith, field.length_one _ c.if-part-eq0.false)

pub returns-then-part-eq0-2 : goal.returns-then-part-eq0-2
returns-then-part-eq0-2 c = search field.put_one

pub byte-requires : goal.byte-requires
byte-requires c = omega (arith, field.length_two _ c.if-part-eq0.false c.if-part-eq0-2.false)

pub returns : goal.returns
returns c = search field.put_two
