-- `trade_interest::after_trade` meets its contract: of all places only the two that the trade touches hold more or less.
use mathlib.Core.List.{List}
use mathlib.Core.Path.{◌≡◌, refl, ap, ◌∙◌}
use Prim.Native.Nat.{ℕ, ◌-◌}
use native.Mathlib.Omega.{arith}
use lib.IntN.{ℤ, pos, ◌+ℤ◌, ◌-ℤ◌}
use mir.Syntax.{w32}
use mir.Val.{to_z, of_z}
use Rattle.integer.specs.Bounds.{Bounded}
use Rattle.integer.proofs.Machine.{param}
use Rattle.integer.specs.Table.{at}
use Rattle.places.specs.Places.{place_in}
use Rattle.places.proofs.Places.{place_within, other_account}
use Rattle.terms.specs.Bounds.{max_position}
use Rattle.exercise.specs.Exercise.{held}
use Rattle.exercise.proofs.Interest.{one_place_held, interest_within}
use Rattle.exercise.proofs.Sides.{held_bought, held_most, held_sold}
use Rattle.series.proofs.Interest.{interest_moved}
use Rattle.trade_interest.proofs.after_trade.Goals as goal

-- the position at a place, as a call is passed it
stands : (l : List ℤ) → Bounded max_position l → (p : ℕ) {k : ℕ} → p ≡ k → to_z w32 (of_z w32 (at l p)) ≡ at l k
stands l h p e = (param w32 (h.each p) tt).is ∙ ap (at l) e

-- no position holds more by more than is bought
pub overflow_add-result : goal.overflow_add-result
overflow_add-result c =
    omega (
      arith,
      c.opened.ensures,
      held_most (to_z w32 (of_z w32 (at c.args.positions.now c.place_in-x.result))) c.args.t.quantity,
      c.requires.0.quantity,
      c.requires.2,
      interest_within c.args.positions.now c.requires.1,
    )

-- none of the two places holds less by more than it held, and that is open
pub overflow_sub-result : goal.overflow_sub-result
overflow_sub-result c =
    let l = c.args.positions.now in
    omega (
      arith,
      c.closed.ensures,
      ap held (stands l c.requires.1 c.place_in-x.result refl),
      ap held (stands l c.requires.1 c.place_in-y.result refl),
      one_place_held l c.place_in-x.result c.place_in-x.ensures.upper_bound,
      one_place_held l c.place_in-y.result c.place_in-y.ensures.upper_bound,
      c.requires.2,
    )

pub returns : goal.returns
returns c =
    let l = c.args.positions.now in
    let t = c.args.t in
    let f = c.requires.0 in
    let x = place_in t.buyer t.buyer_section in
    let y = place_in t.seller t.seller_section in
    let x_within = place_within t.buyer t.buyer_section f.buyer f.buyer_section in
    let y_within = place_within t.seller t.seller_section f.seller f.seller_section in
    omega (
      arith,
      c.opened.ensures ∙ ap (λ (z : ℤ). held (z +ℤ pos t.quantity) - held z) (stands l c.requires.1 _ c.place_in-x.ensures.value),
      c.closed.ensures ∙ ap (λ (z : ℤ). held z - held (z -ℤ pos t.quantity)) (stands l c.requires.1 _ c.place_in-y.ensures.value),
      c.requires.2,
      held_bought (at l x) t.quantity,
      held_sold (at l y) t.quantity,
      one_place_held l y y_within,
      interest_moved l t c.told-positions x_within y_within (other_account t.buyer_section t.seller_section f.buyer_section f.seller_section f.apart),
    )
