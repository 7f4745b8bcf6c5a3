-- `code_fields::future::name` meets its contract.
use mathlib.Core.Path.{refl}
use native.Mathlib.Omega.{arith}
use Rattle.std.proofs.Common.{le_antisymm}
use borrow.Author.Tests.{not-true, not-false}
use Rattle.contract.proofs.FutureField as field
use Rattle.code_fields.proofs.future.name.Goals as goal

pub loop-i-init : goal.loop-i-init
loop-i-init c = (omega arith, refl)

pub bounds-s-i : goal.bounds-s-i
bounds-s-i c = omega arith

pub returns-then-not-letter : goal.returns-then-not-letter
returns-then-not-letter c = search (field.name_stop, not-true)

pub returns-then-i-ge-MAX_NAME : goal.returns-then-i-ge-MAX_NAME
returns-then-i-ge-MAX_NAME c = search (field.name_long, not-false)

pub loop-i-preserved : goal.loop-i-preserved
loop-i-preserved c = (omega arith, search (field.name_more, not-false))

pub returns : goal.returns
returns c = search (field.name_end_lem, le_antisymm)
