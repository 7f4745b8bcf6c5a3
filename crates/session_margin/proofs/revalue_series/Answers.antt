-- `session_margin::revalue_series` meets its contract.
use mathlib.Core.Path.{refl, ap}
use mathlib.Core.Bool.{not}
use borrow.Author.Tests.{lt-ltb, le-ltb}
use Rattle.choice.proofs.Chain.{hit, past}
use Rattle.margin.proofs.Bounds.{option_value_bound}
use Rattle.session_margin.proofs.revalue_series.Goals as goal

pub returns-then-s-day : goal.returns-then-s-day
returns-then-s-day c = past _ (ap not (lt-ltb _ _ c.if-s-day.true)) refl

pub revalue-requires : goal.revalue-requires
revalue-requires c =
    let g = c.requires.1 in (
      c.requires.0,
      record {
        positions = c.requires.2;
        opening = g.opening_limited;
        value = rw c.value-price_value.ensures (option_value_bound _ _ g.coefficient g.option);
        evening = rw c.value-evening_value.ensures (option_value_bound _ _ g.coefficient g.price);
      },
    )

pub returns : goal.returns
returns c =
    hit _ (ap not (le-ltb _ _ c.if-s-day.false))
    (rw (c.value-price_value.ensures, c.value-evening_value.ensures) at c.revalue.ensures)
