-- `refusing::refused` meets its contract.
use Rattle.refusing.proofs.refused.Goals as goal

pub returns : goal.returns
returns c = cc
