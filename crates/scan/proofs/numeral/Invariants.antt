use Rattle.std.proofs.Common.{◌≡◌, ◌≤◌, length, drop}
use Rattle.decimal.specs.Read.{numeral_at, digits_on, capped}
use Rattle.scan.proofs.numeral.Given as goal

abbrev pub invariant-loop-i : goal.invariant-loop-i
invariant-loop-i l =
    (l.i ≤ length l.s) × (l.v ≤ l.most) × (capped l.most (numeral_at l.s l.at) ≡ capped l.most (digits_on l.v l.i (drop l.i l.s)))
