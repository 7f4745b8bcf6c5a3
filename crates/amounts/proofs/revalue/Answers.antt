-- `amounts::revalue` meets its contract: the accounts passed have their margin in the series, and all else is as it was.
use mathlib.Core.Path.{◌≡◌, sym, ap, ap₂, subst, ◌∙◌}
use Prim.Native.Nat.{◌+◌, ◌<◌}
use native.Mathlib.Omega.{arith}
use lib.IntN.{ℤ, pos, ◌-ℤ◌, ◌*ℤ◌}
use mir.Syntax.{w64}
use Rattle.integer.specs.Bounds.{Within}
use Rattle.integer.proofs.Bounds.{within_itself}
use Rattle.integer.proofs.Machine.{Reads, local}
use Rattle.integer.specs.Table.{at}
use Rattle.places.specs.Places.{of_account}
use Rattle.places.proofs.Places.{limited_of_account}
use Rattle.terms.specs.Bounds.{max_position}
use Rattle.margin.specs.Bounds.{max_gain, max_traded}
use Rattle.margin.specs.BySeries.{cell, cells}
use Rattle.margin.proofs.BySeries.{row_at, row_next, row_all, cell_below}
use Rattle.amounts.proofs.Fits.{worth_fits, gain_fits, margin_read, margin_fits}
use Rattle.amounts.proofs.revalue.Goals.{After-of_account-b, In-loop-a, Start}
use Rattle.amounts.proofs.revalue.Goals as goal

-- ---- the turn of the loop: the place of the account's amount in the series, and its margin
module _ (c : In-loop-a) where
  inside : cell c.args.series c.loop-a.a < cells
  inside = cell_below _ _ c.requires.0.series c.loop-a-test.true

  -- what the trades cost stands there still
  cost_small : Within max_traded (at c.loop-a.amounts (cell c.args.series c.loop-a.a))
  cost_small = rw (row_at c.loop-a.invariant.1) (c.requires.0.each _ c.loop-a-test.true)

module _ (c : After-of_account-b) where
  abbrev turn : In-loop-a
  turn = c.before.before.before.before

  abbrev start : Start
  start = turn.before.before

  -- the account's position and opening position, over its places
  n_small : Within max_position c.of_account-n.result
  n_small =
      subst (Within max_position) (sym c.of_account-n.ensures)
      (limited_of_account (at start.args.positions) (λ k. within_itself (at start.args.positions k)) start.requires.1.positions turn.loop-a.a)

  b_small : Within max_position c.of_account-b.result
  b_small =
      subst (Within max_position) (sym c.of_account-b.ensures)
      (limited_of_account (at start.args.opening) (λ k. within_itself (at start.args.opening k)) start.requires.1.opening turn.loop-a.a)

  abbrev gain : ℤ → ℤ → ℤ
  gain n b = n *ℤ pos start.args.price_value -ℤ b *ℤ pos start.args.evening_value

  abbrev cost : ℤ
  cost = at turn.loop-a.amounts (cell start.args.series turn.loop-a.a)

  abbrev margin : Reads (max_gain + max_traded) (gain c.of_account-n.result c.of_account-b.result -ℤ cost)
  margin = margin_read n_small start.requires.1.value b_small start.requires.1.evening (cost_small turn)

  margin_is : gain c.of_account-n.result c.of_account-b.result -ℤ cost
      ≡ gain (of_account (at start.args.positions) turn.loop-a.a) (of_account (at start.args.opening) turn.loop-a.a) -ℤ cost
  margin_is = ap₂ (λ (n b : ℤ). gain n b -ℤ cost) c.of_account-n.ensures c.of_account-b.ensures

-- ---- what the code asks, in its order

pub overflow_mul-gain : goal.overflow_mul-gain
overflow_mul-gain c = worth_fits (n_small c) (start c).requires.1.value

pub overflow_mul-gain-in-loop-a : goal.overflow_mul-gain-in-loop-a
overflow_mul-gain-in-loop-a c = worth_fits (b_small c) (start c).requires.1.evening

pub overflow_sub-gain : goal.overflow_sub-gain
overflow_sub-gain c = gain_fits (n_small c) (start c).requires.1.value (b_small c) (start c).requires.1.evening

pub overflow_sub-amounts : goal.overflow_sub-amounts
overflow_sub-amounts c = margin_fits (n_small c.before) (start c.before).requires.1.value (b_small c.before) (start c.before).requires.1.evening (cost_small (turn c.before))

pub loop-a-preserved : goal.loop-a-preserved
loop-a-preserved c =
    let l = c.before in
    (omega arith, row_next (turn l).loop-a.invariant.1 (start l).requires.0.series (omega arith) _ ((local w64 (margin l) tt).is ∙ margin_is l ∙ ap (λ (z : ℤ). gain l (of_account (at (start l).args.positions) (turn l).loop-a.a) (of_account (at (start l).args.opening) (turn l).loop-a.a) -ℤ z) (row_at (turn l).loop-a.invariant.1)))

pub returns : goal.returns
returns c = row_all c.loop-a.invariant.1 (omega arith)
