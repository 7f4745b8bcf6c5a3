use Rattle.std.proofs.Common.{rules}
use Rattle.integer.proofs.Table.{made_table}
use Rattle.positions_apart.proofs.taken_out.Goals as goal

pub returns : goal.returns
returns c = made_table _ _ _ _ (λ i x d lt call. search rules) _ c.from_fn.ensures.items
