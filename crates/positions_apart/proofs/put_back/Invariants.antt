use Prim.Native.Nat.{◌≤◌}
use lib.ListN.{get_or}
use Rattle.integer.proofs.Table.{Updated}
use Rattle.terms.specs.Bounds.{series_room}
use Rattle.book.specs.Apart.{held_at, with_held}
use Rattle.book.specs.State.{no_series}
use Rattle.positions_apart.proofs.put_back.Given as goal

abbrev pub invariant-loop-i : goal.invariant-loop-i
invariant-loop-i l = (l.i ≤ series_room) × Updated series_room l.i l.series l.initial.series no_series (λ k. with_held (get_or l.initial.series k no_series) (held_at l.held k))
