-- `buffers::fill` meets its contract.
use Rattle.stream.specs.Input.{InRoom}
use borrow.Rule.Slice.PartMut.{take_put}
use Prim.Native.Nat.{◌-◌}
use native.Mathlib.Omega.{arith}
use lib.ListN.{length}
use Rattle.buffers.proofs.fill.Goals as goal

pub returns-in_default : goal.returns-in_default
unfolding InRoom
returns-in_default g c =
    (omega (arith, c.requires), take_put c.args.have (length c.args.buf.now - c.args.have) c.args.buf.now c.read.new.buf (omega (arith, c.requires)))

pub returns-then-n-eq0 : goal.returns-then-n-eq0
unfolding InRoom
returns-then-n-eq0 g c =
    (omega (arith, c.requires), take_put c.args.have (length c.args.buf.now - c.args.have) c.args.buf.now c.read.new.buf (omega (arith, c.requires)))

pub returns : goal.returns
unfolding InRoom
returns g c = (
  (omega (arith, c.if-n-eq0.false), omega (arith, c.in-Ok.ensures.bound.0, c.read.auto.buf)),
  take_put c.args.have (length c.args.buf.now - c.args.have) c.args.buf.now c.read.new.buf (omega (arith, c.requires)),
)
