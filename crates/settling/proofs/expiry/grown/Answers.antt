-- `settling::expiry::grown` meets its contract: each place has its sum.
use Rattle.std.proofs.Common.{rules}
use mir.Syntax.{w32}
use Rattle.integer.proofs.Machine.{local}
use Rattle.integer.proofs.Table.{made_table}
use Rattle.margin.proofs.Combined.{sum_at}
use Rattle.settling.proofs.expiry.grown.Goals as goal

pub returns : goal.returns
returns c = made_table _ _ _ _ (λ i x d lt call. search (rules, (local w32 (sum_at w32 c.requires.0 c.requires.1 tt tt tt i) tt).is)) _ c.from_fn.ensures.items
