use Rattle.marking.proofs.change.unmark.Goals as goal

pub returns : goal.returns
returns c = cc
