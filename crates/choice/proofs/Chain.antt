-- A chain of choices, test by test.
use mathlib.Core.Path.{◌≡◌}
use mathlib.Core.Bool.{Bool, true, false}
use borrow.Author.Tests.{lt-ltb, le-ltb, le-leb, lt-leb, eq-eqb, ne_eqb}
use Rattle.choice.specs.Choice.{choose}

-- one test of a chain: it holds, and the answer is its own; or it fails, and the chain goes on
pub hit : {A : Type 0} {t : Bool} {x z : A} (y : A) → t ≡ true → z ≡ x → z ≡ choose t x y
unfolding choose
hit y e p = rw e p

pub past : {A : Type 0} {t : Bool} {y z : A} (x : A) → t ≡ false → z ≡ y → z ≡ choose t x y
unfolding choose
past x e p = rw e p

-- tests of numbers as the code leaves them: a comparison that was taken or left, as the value of its test
pub ruleset tests = (lt-ltb, le-ltb, le-leb, lt-leb, eq-eqb, ne_eqb)
