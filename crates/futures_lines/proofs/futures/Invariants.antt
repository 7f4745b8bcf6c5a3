use mathlib.Core.Path.{◌≡◌}
use Prim.Native.Nat.{◌+◌, ◌*◌, ◌≤◌}
use lib.ListN.{length}
use Rattle.decimal.specs.Put.{Put}
use Rattle.terms.specs.Bounds.{series_room}
use Rattle.report.specs.Report.{futures_in, series_lines, accounts_room}
use Rattle.report.specs.Lines.{in_turn}
use Rattle.futures_lines.proofs.futures.Given as goal

abbrev pub invariant-loop-i : goal.invariant-loop-i
invariant-loop-i l =
    (l.i ≤ series_room) × (length l.out ≡ length l.initial.out) × (l.next ≤ l.at + l.i * accounts_room) × Put l.initial.out l.at (in_turn l.i (λ i. series_lines l.row i (futures_in l.before i) (futures_in l.after i))) l.out l.next
