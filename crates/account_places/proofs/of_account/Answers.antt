-- `account_places::of_account` meets its contract: the sum so far is that of the sections passed.
use mathlib.Core.Path.{◌≡◌, sym, ap, ◌∙◌}
use Prim.Native.Nat.{ℕ, ◌+◌, ◌*◌}
use native.Mathlib.Nat.{mul-le-mul_right}
use native.Mathlib.Omega.{arith}
use lib.IntN.{ℤ, ◌+ℤ◌}
use mir.Syntax.{w32, w64}
use mir.Val.{to_z}
use Rattle.integer.proofs.Bounds.{within_le, within_pos, within_add}
use Rattle.integer.proofs.Machine.{Reads, same, any, plus, local}
use Rattle.integer.specs.Sum.{sum_to}
use Rattle.integer.proofs.Sum.{sum_to_zero, sum_to_next}
use Rattle.integer.specs.Table.{at}
use Rattle.places.specs.Places.{sections, place_in}
use Rattle.places.proofs.Places.{of_account_sum}
use Rattle.account_places.proofs.of_account.Goals.{After-sum-1, In-loop-section}
use Rattle.account_places.proofs.of_account.Goals as goal
use Rattle.account_places.proofs.of_account.Invariants.{most}

-- the number of one section more
module _ (c : After-sum-1) where
  abbrev turn : In-loop-section
  turn = c.before.before

  abbrev numbers : ℕ → ℤ
  numbers s = at turn.args.numbers.now (place_in turn.args.account s)

  abbrev number : Reads most (at turn.args.numbers.now c.place_in.result)
  number = any w32 (record { sfits = c.sum-1.given })

  abbrev summed : Reads (sections * most + most) (sum_to turn.loop-section.section numbers +ℤ at turn.args.numbers.now c.place_in.result)
  summed =
      plus
      (same (to_z w64 turn.loop-section.sum-bits) turn.loop-section.invariant.1
      (within_le turn.loop-section.invariant.2 (mul-le-mul_right most turn.loop-section.invariant.0)))
      (local w64 number tt)

  next : sum_to turn.loop-section.section numbers +ℤ at turn.args.numbers.now c.place_in.result ≡ sum_to (turn.loop-section.section + 1) numbers
  next =
      ap (λ (k : ℕ). sum_to turn.loop-section.section numbers +ℤ at turn.args.numbers.now k) c.place_in.ensures.value
      ∙ sym (sum_to_next turn.loop-section.section numbers)

pub loop-section-init : goal.loop-section-init
loop-section-init c = (omega arith, sym (sum_to_zero _), rw (sum_to_zero (λ s. at c.args.numbers.now (place_in c.args.account s))) (within_pos (omega arith)))

pub loop-section-preserved : goal.loop-section-preserved
loop-section-preserved c =
    (omega arith, (local w64 (summed c) tt).is ∙ next c, rw (sym (next c)) (within_le (within_add (turn c).loop-section.invariant.2 (number c).bound) (omega arith)))

pub returns : goal.returns
returns c =
    let e : c.loop-section.section ≡ sections = omega arith in
    (rw e at c.loop-section.invariant.1) ∙ sym (of_account_sum _ _)
