use mathlib.Core.Path.{◌≡◌}
use Prim.Native.Nat.{◌+◌, ◌*◌, ◌≤◌}
use lib.ListN.{length}
use Rattle.decimal.specs.Put.{Put}
use Rattle.terms.specs.Bounds.{accounts}
use Rattle.report.specs.Report.{added, futures_line}
use Rattle.report.specs.Lines.{line_room, in_turn}
use Rattle.futures_lines.proofs.series_futures.Given as goal

abbrev pub invariant-loop-a : goal.invariant-loop-a
invariant-loop-a l =
    (l.a ≤ accounts) × (length l.out ≡ length l.initial.out) × (l.next ≤ l.at + l.a * line_room) × Put l.initial.out l.at (in_turn l.a (λ a. futures_line l.row l.i a (added l.before l.after a))) l.out l.next
