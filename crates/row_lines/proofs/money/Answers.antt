-- `row_lines::money` meets its contract: the lines of the accounts passed stand in the buffer.
use mathlib.Core.Path.{◌≡◌, refl}
use native.Mathlib.Omega.{arith}
use lib.Dec.{lit<}
use mir.Facts.{to_z-of_z}
use mir.Syntax.{w64}
use borrow.Author.Rules.{rules}
use Rattle.terms.specs.Bounds.{accounts}
use Rattle.report.specs.Report.{money_line}
use Rattle.report.proofs.Fields.{text_of}
use Rattle.report.proofs.InTurn.{in_turn_put, in_turn_next, element_fits}
use Rattle.row_lines.proofs.money.Goals as goal

pub loop-a-init : goal.loop-a-init
loop-a-init c = (refl, omega arith, in_turn_put _ _ _)

pub loop-a-preserved : goal.loop-a-preserved
loop-a-preserved c =
    let a = c.loop-a.a in
    -- each account's money is a number of 64 bits
    let within = element_fits w64 (lit< tt) accounts c.args.money _ c.well_formed.1.1.1.0 a in
    let put = text_of (money_line c.args.row a) (to_z-of_z within) c.money-next.ensures.put in
    (search rules, omega (arith, c.money-next.ensures.upper_bound), in_turn_next a _ c.loop-a.invariant.2 put)

pub returns : goal.returns
returns c =
    let loop = c.loop-a in
    let all : loop.a ≡ accounts = omega (arith, loop.auto.a-end, c.loop-a-test.false) in
    record { put = rw all at loop.invariant.2; upper_bound = omega arith }
