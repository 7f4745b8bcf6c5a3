-- `calendar_reader::read` meets its contract: the dates so far, and what is read from here on, are what is read of all.
use Prim.Native.Nat.{ℕ, ◌≤◌}
use native.Mathlib.Omega.{arith}
use lib.ListN.{length-replicate}
use Rattle.calendar.specs.Days.{max_dates}
use Rattle.calendar.proofs.Steps.{reached_start, reached_end, reached_full, reached_undated, reached_falling, reached_next, line_digits}
use Rattle.calendar_reader.proofs.read.Goals as goal

pub loop-at-init : goal.loop-at-init
loop-at-init c = reached_start _ _ (length-replicate {A = ℕ} max_dates 0)

pub returns-then-count-eq-MAX_DATES : goal.returns-then-count-eq-MAX_DATES
returns-then-count-eq-MAX_DATES c = search reached_full

pub returns-in_default : goal.returns-in_default
returns-in_default c = search reached_undated depth 12

pub number_of-number-requires : goal.number_of-number-requires
number_of-number-requires c = search line_digits depth 12

pub returns-then-number-before : goal.returns-then-number-before
returns-then-number-before c =
    let l = c.loop-at in
    let f : c.number_of-number.result ≤ l.before = omega arith in
    search (reached_falling, f) depth 12

pub loop-at-preserved : goal.loop-at-preserved
loop-at-preserved c = search reached_next depth 12

pub returns : goal.returns
returns c = search reached_end depth 12
