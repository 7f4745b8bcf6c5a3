-- `full_day::full_day_evenings` meets its contract.
use Rattle.std.proofs.Common.{◌≡◌, ℕ, ◌*◌, ◌%◌, ◌^◌, ap, ◌∙◌, arith}
use Rattle.book.specs.Step.{step_of}
use Rattle.book.specs.declared.state.Book.{Book}
use Rattle.book.specs.declared.state.Event.TheVariants.{Evening}
use Rattle.book.specs.declared.state.Step.{Step}
use Rattle.full_day.specs.Day as rule
use Rattle.full_day.proofs.Counting.{none, one_more}
use Rattle.full_day.proofs.full_day_evenings.Goals.{After-step-step}
use Rattle.full_day.proofs.full_day_evenings.Goals as goal

pub after-full-requires : goal.after-full-requires
after-full-requires c = (c.empty.ensures.1, omega arith)

pub loop-init : goal.loop-init
loop-init c = (none _, omega arith)

pub step-step-requires : goal.step-step-requires
step-step-requires c = c.after-full.ensures.1

-- the book after one evening
next_day : (c : After-step-step) → c.step-step.result.book ≡ rule.next_day
next_day c =
    ap (λ (s : Step). s.book) c.step-step.ensures.0
    ∙ ap (λ (b : Book). (step_of b Evening).book) (c.after-full.ensures.0 ∙ ap (λ (b : Book). rule.after b 0 rule.events) c.empty.ensures.0)

pub loop-preserved : goal.loop-preserved
loop-preserved c =
    let l = c.loop in
    (rw (next_day (goal.at.loop-preserved c).After-step-step) (one_more l.counter (rule.next_day).day l.carried_out l.invariant.0), omega (arith))

pub returns : goal.returns
returns c =
    let l = c.loop in
    l.invariant.0 ∙ ap (λ (n : ℕ). n * (rule.next_day).day % 2 ^ 64) (omega (arith, l.invariant.1))
