-- `code::future_of` meets its contract.
use Rattle.contract.proofs.WholeLayout.{answers, part_length}
use Rattle.contract.specs.Code.{future_of}
use Rattle.code.proofs.future_of.Goals as goal

pub returns-in_default : goal.returns-in_default
unfolding future_of
returns-in_default c = search answers

pub slice_bounds-result-end-2 : goal.slice_bounds-result-end-2
slice_bounds-result-end-2 c = part_length _ _ _ _ c.read.ensures c.in-Ok.is

pub returns : goal.returns
unfolding future_of
returns c = search answers
