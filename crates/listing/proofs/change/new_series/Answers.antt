use Rattle.listing.proofs.change.new_series.Goals as goal

pub returns : goal.returns
returns c = cc
