-- `amounts::pay` meets its contract: each account has its sum.
use Rattle.std.proofs.Common.{rules}
use mir.Syntax.{w64}
use Rattle.integer.proofs.Machine.{local}
use Rattle.integer.proofs.Table.{made_table}
use Rattle.margin.proofs.Combined.{sum_at}
use Rattle.amounts.proofs.pay.Goals as goal

pub returns : goal.returns
returns c = made_table _ _ _ _ (λ i x d lt call. search (rules, (local w64 (sum_at w64 c.requires.0 c.requires.1 tt tt tt i) tt).is)) _ c.from_fn.ensures.items
