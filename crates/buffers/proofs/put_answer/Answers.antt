-- `buffers::put_answer` meets its contract: the line stands behind what waited, and then waits on or is let go.
use mathlib.Core.Path.{refl}
use native.Mathlib.Omega.{arith}
use Rattle.stream.proofs.Lines.{put_behind, text_flushed}
use Rattle.buffers.proofs.put_answer.Goals as goal

pub returns : goal.returns
returns g c =
    let p = c.answered-waiting.ensures in
    text_flushed (put_behind p.put (omega (arith, p.upper_bound, c.requires.0, c.requires.1))) refl c.flush.ensures
