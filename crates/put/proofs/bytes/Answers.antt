-- `put::bytes` meets its contract.
use Rattle.decimal.proofs.Putting as putting
use Rattle.put.proofs.bytes.Goals as goal

pub returns : goal.returns
returns c = search putting.bytes_copied
