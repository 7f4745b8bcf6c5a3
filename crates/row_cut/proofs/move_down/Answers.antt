-- `row_cut::move_down` meets its contract.
use Rattle.std.proofs.Common.{◌∙◌}
use Rattle.row_cut.proofs.Buffer.{moved_some, moved_none, moved_count}
use Rattle.row_cut.proofs.move_down.Goals as goal

pub returns-then-from-buf : goal.returns-then-from-buf
returns-then-from-buf c = (c.saturating_sub-count.ensures ∙ moved_count _ _, c.copy_within.ensures.after ∙ moved_some _ _ c.if-from-buf.true)

pub returns-else-from-buf : goal.returns-else-from-buf
returns-else-from-buf c = (c.saturating_sub-count.ensures ∙ moved_count _ _, moved_none _ _ c.if-from-buf.false)
