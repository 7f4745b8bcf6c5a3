-- `delivery::futures` meets its contract. Assumes nothing.
use Prim.Native.Nat.{ℕ, ◌+◌, ◌≤◌}
use lib.IntN.{pos, ◌-ℤ◌}
use mir.Syntax.{w32}
use Rattle.integer.proofs.Machine.{Reads, nat, minus, local}
use Rattle.terms.specs.Bounds.{max_position}
use Rattle.exercise.specs.Evening.{futures}
use Rattle.delivery.proofs.futures.Goals as goal

abbrev less : {more few : ℕ} → more ≤ max_position → few ≤ max_position → Reads (max_position + max_position) (pos more -ℤ pos few)
less m f = minus (nat w32 m tt) (nat w32 f tt)

pub returns-in-Call : goal.returns-in-Call
unfolding futures
returns-in-Call c = rw c.in-Call.is (local w32 (less c.requires.0 c.requires.1) tt).is

pub returns-in-Put : goal.returns-in-Put
unfolding futures
returns-in-Put c = rw c.in-Put.is (local w32 (less c.requires.1 c.requires.0) tt).is
