-- `settling::expiry::settle` meets its contract.
use mathlib.Core.Path.{ap, ◌∙◌}
use native.Mathlib.Omega.{arith}
use lib.ListN.{replicate}
use mathlib.Core.Bool.{false}
use Rattle.places.specs.Places.{places}
use Rattle.exercise.specs.declared.types.Outcome.{Outcome}
use Rattle.integer.proofs.Bounds.{bounded_le}
use Rattle.series.specs.Series.{with_mark, with_requests, with_evening}
use Rattle.settling.proofs.Settling.{closed, closed_interest, futures_grown, new_futures_bounded}
use Rattle.settling.proofs.expiry.settle.Goals as goal

pub grown-requires : goal.grown-requires
grown-requires c = (
  bounded_le c.requires.0.futures.bounded (omega arith),
  new_futures_bounded c.args.s c.args.day c.requires.0 _ (ap (λ (o : Outcome). o.futures) c.evening-outcome.ensures),
)

pub returns : goal.returns
returns c =
    let s = c.args.s in
    let day = c.args.day in
    let positions = c.closing-positions.ensures ∙ closed s day _ (ap (λ (o : Outcome). o.positions) c.evening-outcome.ensures) in
    let interest = c.closing.ensures ∙ closed_interest s day _ (ap (λ (o : Outcome). o.open_interest) c.evening-outcome.ensures) in
    let futures = c.grown.ensures ∙ futures_grown s day _ (ap (λ (o : Outcome). o.futures) c.evening-outcome.ensures) in
    λ i. with_evening (with_requests (with_mark s (c.no_mark.ensures i)) (replicate places 0) (replicate places false)) s.mark.option (positions i) (interest i) (futures i)
