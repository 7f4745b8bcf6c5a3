-- `full_day::after` meets its contract.
use Rattle.std.proofs.Common.{◌≡◌, ℕ, ◌+◌, refl, ap, ◌∙◌, arith}
use native.Mathlib.Numerals.{unary_clauses}
use Rattle.book.specs.Step.{step_of}
use Rattle.book.specs.declared.state.Book.{Book}
use Rattle.book.specs.declared.state.Event.{Event}
use Rattle.book.specs.declared.state.Step.{Step}
use Rattle.full_day.specs.Day as rule
use Rattle.full_day.proofs.after.Goals as goal

-- one more event
next : (b₀ b : Book) (from n : ℕ) (e : Event) (s : Step) → b ≡ rule.after b₀ from n → e ≡ rule.event (from + n) → s ≡ step_of b e
    → s.book ≡ rule.after b₀ from (n + 1)
unfolding rule.after
next b₀ b from n e s p q r = simp unary_clauses (rw (r, q, p) refl)

pub loop-n-init : goal.loop-n-init
unfolding rule.after
loop-n-init c = (refl, c.requires.0, omega arith)

pub overflow_add-from : goal.overflow_add-from
overflow_add-from c = omega (arith, c.requires.1)

pub event-requires : goal.event-requires
event-requires c = omega (arith, c.requires.1)

pub step-step-requires : goal.step-step-requires
step-step-requires c = c.loop-n.invariant.1

pub loop-n-preserved : goal.loop-n-preserved
loop-n-preserved c =
    let l = c.loop-n in
    let s = c.step-step in
    (next _ l.book _ l.n _ s.result l.invariant.0 c.event.ensures s.ensures.0, s.ensures.1, omega (arith))

pub returns : goal.returns
returns c =
    let l = c.loop-n in
    (l.invariant.0 ∙ ap (rule.after _ _) (omega (arith, l.invariant.2)), l.invariant.1)
