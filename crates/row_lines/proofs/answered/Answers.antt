-- `row_lines::answered` meets its contract.
use Rattle.std.specs.Prelude.{Option, ℕ}
use Rattle.book.specs.Answers as rule
use Rattle.report.specs.Report.{answer_line}
use Rattle.report.proofs.Fields.{text_of}
use Rattle.row_lines.proofs.answered.Goals as goal

pub returns : goal.returns
returns c =
    let row = c.args.row in
    let answer = c.args.answer in record {
      put = text_of (answer_line row _ _) c.answer_number-number.ensures
          (text_of (λ (p : Option ℕ). answer_line row (rule.named answer) p c.answer_number-number.result) c.period-told.ensures
          (text_of (λ (f : Option ℕ). answer_line row f c.period-told.result c.answer_number-number.result) c.named-found.ensures c.answer.ensures.put));
      upper_bound = c.answer.ensures.upper_bound;
    }
