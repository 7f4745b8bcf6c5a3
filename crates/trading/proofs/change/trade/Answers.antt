-- `trading::change::trade` meets its contract: the two stores are a move of the quantity.
use mathlib.Core.Path.{sym, ap₂, ◌∙◌}
use mathlib.Core.Logic.{◌≢◌}
use Prim.Native.Nat.{ℕ}
use lib.IntN.{pos, ◌+ℤ◌, ◌-ℤ◌}
use lib.ListN.{set}
use mir.Syntax.{w32}
use Rattle.integer.proofs.Machine.{Reads, nat, fits, more, fewer, moved_is}
use Rattle.integer.specs.Table.{at}
use Rattle.places.proofs.Places.{other_account}
use Rattle.trading.proofs.change.trade.Goals.{After-place_in-y, Start}
use Rattle.trading.proofs.change.trade.Goals as goal

module _ (c : After-place_in-y) where
  abbrev start : Start
  start = c.before.before.before.before.before.before

  -- the places of buyer and seller
  abbrev x : ℕ
  x = c.place_in-x.result

  abbrev y : ℕ
  y = c.place_in-y.result

  apart : x ≢ y
  apart e =
      other_account start.args.t.buyer_section start.args.t.seller_section start.requires.0.buyer_section start.requires.0.seller_section start.requires.0.apart
      (sym c.place_in-x.ensures.value ∙ e ∙ c.place_in-y.ensures.value)

  abbrev quantity : Reads 1000 (pos start.args.t.quantity)
  quantity = nat w32 start.requires.0.quantity tt

pub overflow_add-positions : goal.overflow_add-positions
overflow_add-positions c =
    let b = c.before.before in
    fits w32 (more w32 (start b).args.positions.now (x b) (y b) (apart b) (start b).requires.1 (quantity b) tt tt) tt

pub overflow_sub-positions : goal.overflow_sub-positions
overflow_sub-positions c =
    let b = c.before.before.before in
    fits w32 (fewer w32 (start b).args.positions.now (x b) (y b) (apart b) (start b).requires.1 (quantity b) tt tt) tt

pub returns : goal.returns
returns c =
    let b = c.before.before.before in
    let l = (start b).args.positions.now in
    let q = pos (start b).args.t.quantity in
    moved_is w32 l (x b) (y b) (apart b) (start b).requires.1 (quantity b) tt tt
    ∙ ap₂ (λ (i j : ℕ). set (set l i (at l i +ℤ q)) j (at l j -ℤ q)) b.place_in-x.ensures.value b.place_in-y.ensures.value
