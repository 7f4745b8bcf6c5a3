-- `futures_lines::series_futures` meets its contract: the lines of the accounts passed stand in the buffer.
use mathlib.Core.Path.{◌≡◌, refl}
use Prim.Native.Nat.{ℕ, ◌+◌, ◌*◌}
use native.Mathlib.Omega.{arith}
use lib.Dec.{lit<}
use mir.Syntax.{w32, w64}
use borrow.Author.Rules.{rules}
use Rattle.integer.specs.Table.{at}
use Rattle.integer.proofs.Machine.{Reads, any, same, minus, local, fits}
use Rattle.terms.specs.Bounds.{accounts}
use Rattle.places.specs.Places.{sections, places, of_account}
use Rattle.places.proofs.Places.{of_account_within}
use Rattle.report.specs.Report.{added, futures_line, series_lines}
use Rattle.report.proofs.Fields.{text_of}
use Rattle.report.proofs.InTurn.{in_turn_put, in_turn_next, element_fits}
use Rattle.futures_lines.proofs.series_futures.Goals.{After-of_account-in-loop-a}
use Rattle.futures_lines.proofs.series_futures.Goals as goal

-- the futures at each place are numbers of 32 bits, and the difference of an account's is one of 64
abbrev most : ℕ
most = sections * 2147483648

module _ (c : After-of_account-in-loop-a) where
  abbrev earlier : Reads most (of_account (at c.args.before) c.loop-a.a)
  earlier =
      same c.of_account-in-loop-a.result c.of_account-in-loop-a.ensures
      (of_account_within _ (λ k. (any w32 (element_fits w32 (lit< tt) places c.args.before _ c.well_formed.1.1.1.1.0 k)).bound) _)

  abbrev later : Reads most (of_account (at c.args.after) c.loop-a.a)
  later =
      same c.of_account.result c.of_account.ensures
      (of_account_within _ (λ k. (any w32 (element_fits w32 (lit< tt) places c.args.after _ c.well_formed.1.1.1.1.1.0 k)).bound) _)

  abbrev difference : Reads (most + most) (added c.args.before c.args.after c.loop-a.a)
  difference = minus (local w64 later tt) (local w64 earlier tt)

pub loop-a-init : goal.loop-a-init
loop-a-init c = (omega arith, refl, omega arith, in_turn_put _ _ _)

pub overflow_sub-arisen : goal.overflow_sub-arisen
overflow_sub-arisen c = fits w64 (difference c) tt

pub loop-a-preserved : goal.loop-a-preserved
loop-a-preserved c =
    let sums = (goal.at.loop-a-preserved c).After-of_account-in-loop-a in
    let put = text_of (futures_line c.args.row c.args.i c.loop-a.a) (local w64 (difference sums) tt).is c.futures-next.ensures.put in
    (omega arith, search rules, omega (arith, c.futures-next.ensures.upper_bound), in_turn_next c.loop-a.a _ c.loop-a.invariant.3 put)

pub returns : goal.returns
unfolding series_lines
returns c =
    let loop = c.loop-a in
    let all : loop.a ≡ accounts = omega arith in
    record { put = rw all at loop.invariant.3; upper_bound = omega arith }
