use Rattle.exercise.specs.Exercise.{in_the_money}
use Rattle.holders.proofs.in_the_money.Goals as goal

pub returns-in-Call : goal.returns-in-Call
unfolding in_the_money
returns-in-Call c = rw c.in-Call.is

pub returns-in-Put : goal.returns-in-Put
unfolding in_the_money
returns-in-Put c = rw c.in-Put.is
