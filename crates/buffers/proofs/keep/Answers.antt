-- `buffers::keep` meets its contract.
use native.Mathlib.Omega.{arith}
use lib.ListN.{length-take, length-drop}
use Rattle.rows.specs.Cut.{kept_from}
use Rattle.stream.proofs.Stream.{kept_front}
use Rattle.buffers.proofs.keep.Goals as goal

pub returns : goal.returns
unfolding kept_from
returns c =
    let m = c.move_down.ensures in
    let k = c.kept_from-start.ensures in
    let n = simp (length-drop, length-take) at m.0 in
    (omega (arith, n), omega (arith, n, k), kept_front c.args.buf.now c.args.from c.args.end c.requires k m.0 m.1 _)
