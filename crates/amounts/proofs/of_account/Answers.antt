-- `amounts::of_account` meets its contract: after i series the sum is that of those i.
use mathlib.Core.Path.{sym, ◌∙◌}
use Prim.Native.Nat.{◌+◌, ◌*◌}
use native.Mathlib.Nat.{mul-le-mul_right}
use native.Mathlib.Omega.{arith}
use lib.IntN.{◌+ℤ◌}
use mir.Syntax.{w64}
use mir.Val.{to_z}
use Rattle.integer.proofs.Bounds.{within_le, within_sum}
use Rattle.integer.proofs.Machine.{Reads, same, param, plus, local, fits}
use Rattle.integer.specs.Sum.{sum_to}
use Rattle.integer.proofs.Sum.{sum_to_zero, sum_to_next}
use Rattle.integer.specs.Table.{at}
use Rattle.terms.specs.Bounds.{series_room}
use Rattle.margin.specs.Bounds.{most_in_a_series}
use Rattle.margin.specs.BySeries.{cell}
use Rattle.amounts.proofs.of_account.Goals.{In-loop-i}
use Rattle.amounts.proofs.of_account.Goals as goal

-- the sum of one series more
module _ (c : In-loop-i) where
  abbrev summed : Reads (series_room * (2 * most_in_a_series) + 2 * most_in_a_series) (sum_to c.loop-i.i (λ j. at c.args.amounts.now (cell j c.args.account)) +ℤ at c.args.amounts.now (cell c.loop-i.i c.args.account))
  summed =
      plus
      (same (to_z w64 c.loop-i.sum-bits) c.loop-i.invariant.1
      (within_le (within_sum c.loop-i.i _ (λ j lt. c.requires.0.each _)) (mul-le-mul_right (2 * most_in_a_series) c.loop-i.invariant.0)))
      (param w64 (c.requires.0.each (cell c.loop-i.i c.args.account)) tt)

pub loop-i-init : goal.loop-i-init
loop-i-init c = (omega arith, sym (sum_to_zero _))

pub overflow_add-sum-in-loop-i : goal.overflow_add-sum-in-loop-i
overflow_add-sum-in-loop-i c = fits w64 (summed c.before) tt

pub loop-i-preserved : goal.loop-i-preserved
loop-i-preserved c =
    let l = c.before in
    (omega arith, (local w64 (summed l) tt).is ∙ sym (sum_to_next l.loop-i.i _))
