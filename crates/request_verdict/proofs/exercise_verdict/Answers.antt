-- `request_verdict::exercise_verdict` meets its contract: the tests are those of the rule, in its order.
use mathlib.Core.Path.{◌≡◌}
use mir.Syntax.{w32}
use Rattle.choice.proofs.Chain.{hit, past, tests}
use Rattle.exercise.specs.Exercise.{held}
use Rattle.integer.proofs.Machine.{any}
use Rattle.integer.specs.Table.{at}
use Rattle.places.specs.Places.{place_in}
use Rattle.request_verdict.proofs.exercise_verdict.Goals.{After-held, Start}
use Rattle.request_verdict.proofs.exercise_verdict.Goals as goal

-- what the call gave, of the position itself
abbrev start : After-held → Start
start c = c.before.before.before.before.before.before.before.before.before.before.before.before.before.before.before.before.before.before

gave : (c : After-held) → c.held.result ≡ held (at (start c).args.positions.now (place_in (start c).args.request.account (start c).args.request.section))
gave c = rw ((any w32 (record { sfits = c.held-arg-1.given })).is, c.place_in-place.ensures.value) at c.held.ensures

pub returns-then-today-gt-FINAL_DAY : goal.returns-then-today-gt-FINAL_DAY
returns-then-today-gt-FINAL_DAY c = search (hit, past, tests) depth 28

pub returns-then-today-request : goal.returns-then-today-request
returns-then-today-request c = search (hit, past, tests) depth 28

pub returns-then-listing-today : goal.returns-then-listing-today
returns-then-listing-today c = search (hit, past, tests) depth 28

pub returns-then-request-ge-ACCOUNTS : goal.returns-then-request-ge-ACCOUNTS
returns-then-request-ge-ACCOUNTS c = search (hit, past, tests) depth 28

pub returns-then-request : goal.returns-then-request
returns-then-request c = search (hit, past, tests) depth 28

pub returns-then-too_early : goal.returns-then-too_early
returns-then-too_early c = rw (← c.too_early.ensures) (search (hit, past, tests) depth 28)

pub returns-then-held-request : goal.returns-then-held-request
returns-then-held-request c = rw (← c.too_early.ensures, ← gave c.before.before) (search (hit, past, tests) depth 28)

pub returns : goal.returns
returns c = rw (← c.too_early.ensures, ← gave c.before.before) (search (hit, past, tests) depth 28)
