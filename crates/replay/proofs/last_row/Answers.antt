-- `replay::last_row` meets its contract.
use Rattle.std.proofs.Common.{◌≡◌, arith, refl, take}
use lib.Seq.{length-take-le}
use Rattle.stream.specs.Input.{rows_by, kept_by, goes_on}
use Rattle.stream.proofs.Lines.{last_none, last_some}
use Rattle.replay.proofs.last_row.Goals as goal

pub returns-then-run-gt0 : goal.returns-then-run-gt0
unfolding rows_by kept_by goes_on
returns-then-run-gt0 g c =
    let p = c.pass_row.ensures in
    let have = c.args.run.now.have in
    let long = length-take-le have c.args.buf.now c.requires.1 in
    record {
      answered = last_some _ (take have c.args.buf.now) (omega (arith, long, c.if-run-gt0.true)) p.answered;
      keeps = refl;
      few = omega arith;
      within = omega arith;
      going = refl;
      ready = p.ready;
    }

pub returns-else-run-gt0 : goal.returns-else-run-gt0
unfolding rows_by kept_by goes_on
returns-else-run-gt0 g c =
    let have = c.args.run.now.have in
    let none : have ≡ 0 = omega (arith, c.if-run-gt0.false) in
    record {
      answered = last_none _ c.args.run.now.replay c.args.out.now c.args.buf.now have none;
      keeps = rw none refl;
      few = omega (arith, none);
      within = omega (arith, none);
      going = refl;
      ready = c.requires.0;
    }
