-- `amounts::in_all` meets its contract: each account has its sum.
use Rattle.std.proofs.Common.{rules}
use Rattle.integer.proofs.Table.{made_table}
use Rattle.amounts.proofs.in_all.Goals as goal

pub returns : goal.returns
returns c = made_table _ _ _ _ (λ i x d lt call. search rules) _ c.from_fn.ensures.items
