-- `delivery::evening` meets its contract. Assumes nothing.
use borrow.Author.Rules.{rules}
use mathlib.Core.Path.{◌≡◌, refl, ◌∙◌}
use native.Mathlib.Omega.{arith}
use lib.ListN.{length}
use Prim.Native.Nat.{◌≤◌}
use Rattle.integer.specs.Sum.{sumℕ}
use Rattle.places.specs.Places.{places, amount}
use Rattle.exercise.proofs.Interest.{holders_writers}
use Rattle.writers.proofs.Arrays as law
use Rattle.delivery.proofs.evening.Goals.{After-exercised_by_place-exercised}
use Rattle.delivery.proofs.evening.Goals as goal

-- no more is exercised than is open
enough : (c : After-exercised_by_place-exercised) → sumℕ places (amount c.exercised_by_place-exercised.result) ≤ c.args.interest
enough c =
    let a = c.args in
    let x = c.exercised_by_place-exercised in
    law.enough_held a.fixing a.positions a.requests a.declined c.requires.0 x.result _ x.ensures refl c.requires.1 a.interest c.requires.2

pub total-in_all-requires : goal.total-in_all-requires
total-in_all-requires c = omega (arith, enough c, c.ranges.interest.fits)

pub returns-then-in_all-eq0 : goal.returns-then-in_all-eq0
returns-then-in_all-eq0 c =
    let s = c in
    let x = c.exercised_by_place-exercised in
    let e = c.total-in_all in
    let long : length s.args.positions ≡ places = search rules in
    law.nothing_done s.args.fixing s.args.positions s.args.requests s.args.declined s.requires.0
    x.result e.result x.ensures e.ensures long c.if-in_all-eq0.true s.args.interest s.requires.2

pub assign-assigned-requires : goal.assign-assigned-requires
assign-assigned-requires c =
    (omega (arith, enough (goal.at.assign-assigned-requires c).After-exercised_by_place-exercised, c.total-in_all.ensures), c.requires.2 ∙ holders_writers c.args.positions c.requires.1)

pub overflow_sub-interest : goal.overflow_sub-interest
overflow_sub-interest c = omega (arith, enough (goal.at.overflow_sub-interest c).After-exercised_by_place-exercised, c.total-in_all.ensures)

pub by_place-requires : goal.by_place-requires
by_place-requires c =
    let s = c in
    let x = c.exercised_by_place-exercised in
    let e = c.total-in_all in (
      s.requires.0,
      law.exercised_few s.args.fixing s.args.positions s.args.requests s.args.declined s.requires.0 x.result e.result x.ensures e.ensures,
      law.assigned_few s.args.fixing s.args.positions s.args.requests s.args.declined s.requires.0
          x.result e.result x.ensures e.ensures s.requires.1 c.assign-assigned.result c.assign-assigned.ensures,
    )

pub returns : goal.returns
returns c =
    let s = c in
    let x = c.exercised_by_place-exercised in
    let e = c.total-in_all in
    law.all_done s.args.fixing s.args.positions s.args.requests s.args.declined s.requires.0
    x.result e.result x.ensures e.ensures s.requires.1 c.assign-assigned.result c.assign-assigned.ensures
    c.by_place.result s.args.interest s.requires.2 c.by_place.ensures
