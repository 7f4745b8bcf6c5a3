-- `buffers::flush` meets its contract: all waits on, or nothing does.
use Rattle.std.proofs.Common.{arith}
use Rattle.stream.proofs.Lines.{all_waits, none_waits, some_let_go, as_it_was}
use Rattle.buffers.proofs.flush.Goals as goal

pub returns-then-end-le-WAITING_ROOM : goal.returns-then-end-le-WAITING_ROOM
returns-then-end-le-WAITING_ROOM g c = record { room = omega arith; waits = all_waits _ _ c.requires c.if-end-le-WAITING_ROOM.true; intact = as_it_was }

pub returns-then-waiting : goal.returns-then-waiting
returns-then-waiting g c =
    let h = c.requires in
    let full = c.if-end-le-WAITING_ROOM.false in
    record {
      room = omega arith;
      waits = none_waits _ _ h full;
      intact = record { broken = λ e. (cc (c.if-waiting.true, e)); untouched = λ e. absurd (some_let_go _ _ h full e) };
    }

pub returns-else-waiting : goal.returns-else-waiting
returns-else-waiting g c =
    let h = c.requires in
    let full = c.if-end-le-WAITING_ROOM.false in
    record { room = omega arith; waits = none_waits _ _ h full; intact = record { broken = λ e. e; untouched = λ e. absurd (some_let_go _ _ h full e) } }
