-- `recording::next_record` meets its contract.
use Rattle.choice.proofs.Chain.{hit, past, tests}
use Rattle.book.specs.Effects.{next_record}
use Rattle.recording.proofs.next_record.Goals as goal

pub returns-then-trades-lt-BLOTTER : goal.returns-then-trades-lt-BLOTTER
unfolding next_record
returns-then-trades-lt-BLOTTER c = search (hit, past, tests)

pub returns-else-trades-lt-BLOTTER : goal.returns-else-trades-lt-BLOTTER
unfolding next_record
returns-else-trades-lt-BLOTTER c = search (hit, past, tests)
