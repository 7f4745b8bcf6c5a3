-- `position_limit::in_section` meets its contract.
use mathlib.Core.Path.{refl}
use mir.Syntax.{w64}
use borrow.Author.Tests.{eq-eqb, ne_eqb}
use Rattle.choice.proofs.Chain.{hit, past}
use Rattle.integer.proofs.Machine.{any}
use Rattle.position_limit.proofs.in_section.Goals as goal

pub returns-then-s-section : goal.returns-then-s-section
returns-then-s-section c = hit _ (eq-eqb _ _ c.if-s-section.true) (any w64 c.ranges.change).is

pub returns-else-s-section : goal.returns-else-s-section
returns-else-s-section c = past _ (ne_eqb _ _ c.if-s-section.false) refl
