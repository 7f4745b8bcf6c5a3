-- `scan::expect` meets its contract.
use Rattle.choice.specs.Choice.{choose}
use Rattle.choice.proofs.Chain.{tests}
use Rattle.decimal.specs.Scan.{byte_at}
use Rattle.scan.proofs.expect.Goals as goal

pub returns-then-s-at : goal.returns-then-s-at
unfolding byte_at choose
returns-then-s-at c = search tests

pub returns-else-s-at : goal.returns-else-s-at
unfolding byte_at choose
returns-else-s-at c = search tests

pub returns-else-at-s : goal.returns-else-at-s
unfolding byte_at choose
returns-else-at-s c = search tests
