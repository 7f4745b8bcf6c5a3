-- `clearing::open_interest` meets its contract: what the book keeps is what the holders have.
use mathlib.Core.Path.{sym, ◌∙◌}
use Rattle.book.proofs.Interest.{interest_kept, none_past_all}
use Rattle.clearing.proofs.open_interest.Goals as goal

pub returns-then-i-ge-SERIES-clause-value : goal.returns-then-i-ge-SERIES-clause-value
returns-then-i-ge-SERIES-clause-value c =
    let b = c.args.book.now in
    let i = c.args.series in
    sym (none_past_all b c.requires i c.if-i-ge-SERIES.true) ∙ (interest_kept b c.requires i).holders

pub returns-clause-value : goal.returns-clause-value
returns-clause-value c = (interest_kept c.args.book.now c.requires c.args.series).holders
