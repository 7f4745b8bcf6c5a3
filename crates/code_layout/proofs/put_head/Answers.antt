-- `code_layout::put_head` meets its contract.
use Rattle.decimal.proofs.Putting.{puts}
use Rattle.code_layout.proofs.put_head.Goals as goal

pub returns : goal.returns
returns c = search puts depth 8
