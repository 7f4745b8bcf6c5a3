use borrow.Author.Tests.{eq-eqb, ne_eqb}
use mathlib.Core.Path.{refl, sym, ◌∙◌}
use Rattle.choice.proofs.Chain.{hit, past}
use Rattle.exercise.specs.Exercise.{automatic}
use Rattle.holders.proofs.automatic.Goals as goal

pub returns-then-not-fixing : goal.returns-then-not-fixing
unfolding automatic
returns-then-not-fixing c = hit _ c.if-not-fixing.true refl

pub returns-then-in_the_money : goal.returns-then-in_the_money
unfolding automatic
returns-then-in_the_money c = past _ c.if-not-fixing.false (hit _ (sym c.in_the_money.ensures ∙ c.if-in_the_money.true) refl)

pub returns-then-fixing : goal.returns-then-fixing
unfolding automatic
returns-then-fixing c =
    past _ c.if-not-fixing.false (past _ (sym c.in_the_money.ensures ∙ c.if-in_the_money.false) (hit _ (eq-eqb _ _ c.if-fixing.true) c.half.ensures))

pub returns : goal.returns
unfolding automatic
returns c =
    past _ c.if-not-fixing.false (past _ (sym c.in_the_money.ensures ∙ c.if-in_the_money.false) (past _ (ne_eqb _ _ c.if-fixing.false) refl))
