-- `writers::shares` meets its contract: the places passed have their parts. Assumes nothing.
use Rattle.std.proofs.Common.{rules, Fits, w32}
use mathlib.Core.Path.{◌≡◌, refl, sym, ap, ◌∙◌}
use Prim.Native.Nat.{ℕ, ◌*◌, ◌/◌, ◌%◌}
use native.Mathlib.Nat.{mul-le-mul_right, div-le_of_le-mul, mul-zero, zero-div, zero-mod}
use native.Mathlib.Omega.{arith}
use lib.ListN.{get_or, get_or-replicate}
use Rattle.integer.proofs.NatSum.{sumℕ_zero, sumℕ_next}
use Rattle.integer.proofs.Table.{updated_start, updated_next, updated_skip, updated_rest}
use Rattle.places.specs.Places.{places, amount}
use Rattle.exercise.specs.Assignment.{whole_part}
use Rattle.writers.proofs.shares.Goals.{then-shorts-place-ne0, else-shorts-place-ne0}
use Rattle.writers.proofs.shares.Goals as goal
use Rattle.writers.proofs.shares.Invariants.{none}

-- of nothing there is no part
no_part : (e o w : ℕ) → w ≡ 0 → 0 ≡ e * w / o
no_part e o w q = rw (q, mul-zero e) (sym (zero-div o))

no_remainder : (e o w : ℕ) → w ≡ 0 → 0 ≡ e * w % o
no_remainder e o w q = rw (q, mul-zero e) (sym (zero-mod o))

pub loop-place-init : goal.loop-place-init
loop-place-init c = (omega arith, updated_start _ 0 _ refl, updated_start _ 0 _ refl, sym (sumℕ_zero _), omega arith)

-- a writer has his parts, and who is short of nothing has none
pub loop-place-preserved : goal.loop-place-preserved
loop-place-preserved c =
    let l = c.before.before in
    let a = l.args in
    let i = l.loop-place.invariant in
    let zero : get_or none l.loop-place.place 0 ≡ 0 = get_or-replicate places l.loop-place.place 0 0 c.loop-place-test.true in
    let few : Fits w32 (amount a.shorts l.loop-place.place) = search rules in
    let more = sumℕ_next l.loop-place.place (whole_part a.exercised a.interest (amount a.shorts)) in
    elim c.if-shorts-place-ne0.branch [
      | then-shorts-place-ne0 w ↦
          (let part = ap (λ (x : ℕ). a.exercised * x / a.interest) w.from.ensures in (
            omega arith,
            rw w.whole-is (updated_next i.1 (omega arith) _ part),
            rw w.remainder-is (updated_next i.2 (omega arith) _ (ap (λ (x : ℕ). a.exercised * x % a.interest) w.from.ensures)),
            rw w.given-is (omega (arith, i.3, more, part)),
            rw w.given-is (omega (arith, i.4, few.fits, w.from.ensures, div-le_of_le-mul a.interest (mul-le-mul_right w.from.result l.requires.1))),
          ))
      | else-shorts-place-ne0 w ↦
          (let no_part_of_it = no_part a.exercised a.interest _ w.if-shorts-place-ne0.false in (
            omega arith,
            rw w.whole-is (updated_skip i.1 (zero ∙ no_part_of_it)),
            rw w.remainder-is (updated_skip i.2 (zero ∙ no_remainder a.exercised a.interest _ w.if-shorts-place-ne0.false)),
            rw w.given-is (omega (arith, i.3, more, no_part_of_it)),
            rw w.given-is (omega (arith, i.4)),
          ))
    ]

pub returns : goal.returns
returns c =
    let end : c.loop-place.place ≡ places = omega arith in
    λ i. record {
      whole = updated_rest c.loop-place.invariant.1 (λ k le lt. absurd (omega arith)) i;
      remainder = updated_rest c.loop-place.invariant.2 (λ k le lt. absurd (omega arith)) i;
      given = (rw end at c.loop-place.invariant.3) i;
    }
