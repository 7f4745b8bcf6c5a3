-- `delivery::by_place` meets its contract: each place has its numbers.
use Rattle.std.proofs.Common.{rules}
use native.Mathlib.Omega.{arith}
use Rattle.integer.proofs.Table.{made_table, may_be_called}
use Rattle.integer.specs.Table.{at}
use Rattle.places.specs.Places.{amount}
use Rattle.exercise.specs.Evening.{shrunk, futures}
use Rattle.delivery.proofs.by_place.Goals as goal

pub from_fn-requires-2 : goal.from_fn-requires-2
from_fn-requires-2 c = (omega arith, may_be_called _ (λ i d r. search rules) (λ i lt. search (rules, c.requires.1, c.requires.2)))

pub returns : goal.returns
returns c =
    let a = c.args in
    λ i. record {
      positions = made_table _ _ (λ k. shrunk (at a.positions k) (amount a.exercised k) (amount a.assigned k)) _ (λ k x d lt call. search rules) _ c.from_fn.ensures.items i;
      futures = made_table _ _ (λ k. futures a.option (amount a.exercised k) (amount a.assigned k)) _ (λ k x d lt call. search rules) _ c.from_fn-2.ensures.items i;
      open_interest = a.left;
    }
