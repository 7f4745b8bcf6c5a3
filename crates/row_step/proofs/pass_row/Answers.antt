-- `row_step::pass_row` meets its contract: the row is answered, and the replay is ready for the next.
use Rattle.std.proofs.Common.{arith}
use Rattle.stream.proofs.Lines.{row_answered}
use Rattle.row_step.proofs.pass_row.Goals as goal

pub returns : goal.returns
returns g c =
    let a = c.answer_row in
    let f = c.flush in
    record {
      answered = row_answered c.requires a.ensures f.ensures;
      ready = record { good = a.ensures.good; waiting = f.ensures.room; room = omega (arith, a.auto.out, f.auto.out, c.requires.room) };
    }
