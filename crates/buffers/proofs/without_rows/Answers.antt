-- `buffers::without_rows` meets its contract.
use borrow.Author.Rules.{rules}
use mathlib.Core.Path.{refl}
use native.Mathlib.Omega.{arith}
use Rattle.stream.proofs.Lines.{put_behind}
use Rattle.buffers.proofs.without_rows.Goals as goal

pub returns : goal.returns
returns c =
    let n = c.no_calendar.ensures in
    (omega (arith, n.upper_bound), put_behind n.put (search rules), refl)
