use Rattle.marking.proofs.change.mark.Goals as goal

pub returns : goal.returns
returns c = cc
