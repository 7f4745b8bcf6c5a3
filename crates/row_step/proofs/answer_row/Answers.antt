-- `row_step::answer_row` meets its contract: a row is its event, or is refused.
use Rattle.std.proofs.Common.{◌+◌, ◌%◌, ◌^◌, sym, refl, ◌∙◌, arith}
use Rattle.stream.proofs.Books.{book_refused, lines_refused, row_put}
use Rattle.row_step.proofs.answer_row.Goals as goal

pub returns-in-Err : goal.returns-in-Err
returns-in-Err c =
    let q = sym c.read_row.ensures ∙ c.in-Err.is in
    let p = c.answer-replay.ensures in
    let from = c.args.replay.now in
    record {
      good = c.requires.0;
      book = book_refused from.book q;
      number = refl;
      lines = rw (← lines_refused from.book ((from.row + 1) % 2 ^ 64) q, ← c.of_row.ensures) p.put;
      room = omega (arith, p.upper_bound);
      intact = refl;
    }

pub returns-in-Ok : goal.returns-in-Ok
returns-in-Ok c = row_put refl (sym c.read_row.ensures ∙ c.in-Ok.is) c.event_row.ensures
