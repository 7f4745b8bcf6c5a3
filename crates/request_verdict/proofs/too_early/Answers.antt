-- `request_verdict::too_early` meets its contract.
use Rattle.series.specs.Conditions.{too_early}
use Rattle.request_verdict.proofs.too_early.Goals as goal

pub returns-in-American : goal.returns-in-American
unfolding too_early
returns-in-American c = rw c.in-American.is

pub returns-in-European : goal.returns-in-European
unfolding too_early
returns-in-European c = rw c.in-European.is
