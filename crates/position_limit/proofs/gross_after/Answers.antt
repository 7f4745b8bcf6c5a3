-- `position_limit::gross_after` meets its contract: the sum so far is that of the sections passed.
use mathlib.Core.Path.{◌≡◌, sym, ap, subst, ◌∙◌}
use Prim.Native.Nat.{ℕ, ◌≤◌}
use native.Mathlib.Omega.{arith}
use lib.Dec.{eqb}
use lib.IntN.{ℤ, pos, nat_abs, ◌+ℤ◌}
use mir.Syntax.{w32, w64}
use mir.Val.{to_z, of_z}
use Rattle.choice.specs.Choice.{choose}
use Rattle.integer.specs.Bounds.{Within}
use Rattle.integer.proofs.Machine.{Reads, same, any, plus, local, fits}
use Rattle.integer.proofs.NatSum.{sumℕ_zero, sumℕ_next}
use Rattle.integer.specs.Table.{at}
use Rattle.places.specs.Places.{sections}
use Rattle.terms.specs.Bounds.{max_quantity}
use Rattle.series.proofs.Limit.{gross_after_sum}
use Rattle.book.proofs.Revaluation.{choice_small}
use Rattle.position_limit.proofs.gross_after.Goals.{After-in_section, After-magnitude-gross, After-position-1, At-loop-s, In-loop-s, Start}
use Rattle.position_limit.proofs.gross_after.Goals as goal
use Rattle.position_limit.proofs.gross_after.Invariants.{most, has}

-- ---- the turn of the loop: what its section has
module _ (c : After-position-1) where
  abbrev turn : In-loop-s
  turn = c.before.before

  abbrev start : Start
  start = turn.before.before

  abbrev stands : Reads 2147483648 (at start.args.positions.now c.place_in.result)
  stands = any w32 (record { sfits = c.position-1.given })

module _ (c : After-in_section) where
  abbrev first : Start
  first = start c.before

  abbrev s : ℕ
  s = (turn c.before).loop-s.s

  abbrev change : ℤ
  change = to_z w64 (of_z w64 first.args.change)

  abbrev comes : Reads max_quantity (choose (eqb s first.args.section) change (pos 0))
  comes =
      same c.in_section.result c.in_section.ensures
      (choice_small (eqb s first.args.section) change (subst (Within max_quantity) (sym (any w64 first.ranges.change).is) first.requires.2))

  abbrev moved : Reads most (at first.args.positions.now c.place_in.result +ℤ choose (eqb s first.args.section) change (pos 0))
  moved = plus (local w64 (stands c.before) tt) (local w64 comes tt)

module _ (c : After-magnitude-gross) where
  abbrev at_turn : At-loop-s
  at_turn = (turn c.before.before).before

  abbrev args : ℕ → ℤ
  args t = has (first c.before).args.positions.now (first c.before).args.account (first c.before).args.section (change c.before) t

  gives : c.magnitude-gross.result ≡ nat_abs (args at_turn.loop-s.s)
  gives =
      c.magnitude-gross.ensures.0
      ∙ ap nat_abs (local w64 (moved c.before) tt).is
      ∙ ap (λ (k : ℕ). nat_abs (at (first c.before).args.positions.now k +ℤ choose (eqb at_turn.loop-s.s (first c.before).args.section) (change c.before) (pos 0))) c.place_in.ensures.value

  small : c.magnitude-gross.result ≤ most
  small = omega (arith, c.magnitude-gross.ensures.0, ap nat_abs (local w64 (moved c.before) tt).is, (moved c.before).bound.abs)

pub loop-s-init : goal.loop-s-init
loop-s-init c = (sym (sumℕ_zero _), omega arith)

pub overflow_add-position : goal.overflow_add-position
overflow_add-position c = fits w64 (moved c) tt

pub overflow_add-gross : goal.overflow_add-gross
overflow_add-gross c = omega (arith, (at_turn c).loop-s.invariant.1, (at_turn c).loop-s.auto.s-end, small c)

pub loop-s-preserved : goal.loop-s-preserved
loop-s-preserved c = (omega (arith, (at_turn c).loop-s.invariant.0, sumℕ_next (at_turn c).loop-s.s (λ t. nat_abs (args c t)), gives c), omega (arith, (at_turn c).loop-s.invariant.1, small c))

pub returns : goal.returns
returns c =
    let b = c.before.before in
    let e : c.loop-s.s ≡ sections = omega (arith, c.loop-s.auto.s-end, c.loop-s-test.false) in
    (rw (e, (any w64 b.ranges.change).is) at c.loop-s.invariant.0) ∙ sym (gross_after_sum b.args.positions.now b.args.account b.args.section b.args.change b.requires.1)
