-- `buffer_rows::pass` meets its contract.
use mathlib.Core.Path.{refl, ap, ◌∙◌}
use native.Mathlib.Omega.{arith}
use Rattle.rows.specs.Cut.{kept}
use Rattle.stream.specs.Input.{rows_by, kept_by, goes_on}
use Rattle.buffer_rows.proofs.pass.Goals as goal

pub returns : goal.returns
unfolding rows_by kept_by goes_on
returns g c =
    let w = c.whole_rows-start.ensures in
    let k = c.keep-run in
    record {
      answered = w.answered;
      keeps = k.ensures.2 ∙ ap kept w.unfinished;
      few = omega (arith, k.ensures.1);
      within = omega (arith, k.ensures.0, k.auto.buf);
      going = refl;
      ready = w.ready;
    }
