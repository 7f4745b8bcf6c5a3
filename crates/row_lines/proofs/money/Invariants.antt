use mathlib.Core.Path.{◌≡◌}
use Prim.Native.Nat.{◌+◌, ◌*◌, ◌≤◌}
use lib.ListN.{length}
use Rattle.decimal.specs.Put.{Put}
use Rattle.integer.specs.Table.{at}
use Rattle.report.specs.Report.{money_line}
use Rattle.report.specs.Lines.{line_room, in_turn}
use Rattle.row_lines.proofs.money.Given as goal

abbrev pub invariant-loop-a : goal.invariant-loop-a
invariant-loop-a l =
    (length l.out ≡ length l.initial.out) × (l.next ≤ l.at + l.a * line_room) × Put l.initial.out l.at (in_turn l.a (λ a. money_line l.row a (at l.money a))) l.out l.next
