-- `account_places::place_in` meets its contract: the account's places come after those of the accounts before it.
use mathlib.Core.Path.{refl}
use Rattle.places.specs.Places.{place_in}
use Rattle.account_places.proofs.place_in.Goals as goal

pub returns-clause-value : goal.returns-clause-value
unfolding place_in
returns-clause-value c = refl
