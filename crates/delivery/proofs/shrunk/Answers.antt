-- `delivery::shrunk` meets its contract. Assumes nothing.
use Prim.Native.Nat.{◌+◌}
use lib.IntN.{pos, ◌+ℤ◌, ◌-ℤ◌}
use mir.Syntax.{w32}
use Rattle.integer.proofs.Machine.{Reads, param, nat, plus, minus, local}
use Rattle.terms.specs.Bounds.{max_position}
use Rattle.exercise.specs.Evening.{shrunk}
use Rattle.delivery.proofs.shrunk.Goals.{Start}
use Rattle.delivery.proofs.shrunk.Goals as goal

module _ (c : Start) where
  abbrev less : Reads (max_position + max_position) (c.args.position -ℤ pos c.args.exercised)
  less = minus (param w32 c.requires.0 tt) (nat w32 c.requires.1 tt)

  abbrev left : Reads (max_position + max_position + max_position) (c.args.position -ℤ pos c.args.exercised +ℤ pos c.args.assigned)
  left = plus (local w32 less tt) (nat w32 c.requires.2 tt)

pub returns : goal.returns
unfolding shrunk
returns c = (local w32 (left c) tt).is
