use Rattle.marking.proofs.change.no_mark.Goals as goal

pub returns : goal.returns
returns c = cc
