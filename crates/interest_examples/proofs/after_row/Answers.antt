-- `interest_examples::after_row` meets its contract.
use Rattle.std.proofs.Common.{sym, ap, ◌∙◌}
use Rattle.book.specs.declared.state.Step.{Step}
use Rattle.stream.proofs.Books.{book_refused, book_accepted}
use Rattle.interest_examples.proofs.after_row.Goals as goal

pub returns-in-Err-clause-value : goal.returns-in-Err-clause-value
returns-in-Err-clause-value c = book_refused c.args.book (sym c.read_row.ensures ∙ c.in-Err.is)

pub returns-in-Ok-clause-value : goal.returns-in-Ok-clause-value
returns-in-Ok-clause-value c = ap (λ (s : Step). s.book) c.step.ensures.0 ∙ book_accepted c.args.book (sym c.read_row.ensures ∙ c.in-Ok.is)
