-- Two arrays combined place by place: the number that their sum or difference at place i is.
use Prim.Native.Nat.{ℕ, ◌+◌}
use mathlib.Core.List.{List}
use lib.IntN.{ℤ, ◌+ℤ◌, ◌-ℤ◌}
use mir.Syntax.{Width}
use Rattle.integer.specs.Bounds.{Bounded}
use Rattle.integer.proofs.Bounds.{InRange}
use Rattle.integer.proofs.Machine.{Reads, param, plus, minus, local}
use Rattle.integer.specs.Table.{at}

module _ (w : Width) {A B : ℕ} {l m : List ℤ} (h : Bounded A l) (k : Bounded B m) (a : InRange w A) (b : InRange w B) (t : InRange w (A + B)) (i : ℕ) where
  abbrev pub sum_at : Reads (A + B) (at l i +ℤ at m i)
  sum_at = plus (param w (h.each i) a) (param w (k.each i) b)

  abbrev pub difference_at : Reads (A + B) (at l i -ℤ at m i)
  difference_at = minus (param w (h.each i) a) (param w (k.each i) b)
