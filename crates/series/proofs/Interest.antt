-- What a trade and an evening leave of the open interest, by what they move.
use mathlib.Core.Path.{◌≡◌, refl, sym, ap, ◌∙◌}
use mathlib.Core.Logic.{◌≢◌}
use mathlib.Core.Bool.{true, false}
use mathlib.Core.List.{List}
use Prim.Native.Nat.{ℕ, ◌+◌, ◌<◌}
use native.Mathlib.Omega.{arith}
use lib.IntN.{ℤ, pos, ◌+ℤ◌, ◌-ℤ◌}
use lib.ListN.{length, set, length-set, get_or-replicate}
use lib.Seq.{get_or-set_other}
use Rattle.choice.proofs.Chain.{hit, past}
use Rattle.integer.specs.Table.{at, table}
use Rattle.integer.proofs.Table.{get_or_table, table_ext}
use Rattle.margin.specs.declared.trade.Trade.{Trade}
use Rattle.places.specs.Places.{places, place_in, amount, flag}
use Rattle.exercise.specs.Evening.{exercised_in_all, remaining}
use Rattle.exercise.specs.Exercise.{held}
use Rattle.exercise.specs.Interest.{held_in_all}
use Rattle.exercise.proofs.Interest.{none_held, interest_set, interest_left}
use Rattle.series.specs.Changes.{moved, fixing_of, closing}
use Rattle.series.specs.Good.{GoodSeries}
use Rattle.series.specs.Series.{zeros, last_day}
use Rattle.series.specs.declared.state.Series.{Series}

pub none_in_zeros : held_in_all zeros ≡ 0
none_in_zeros = none_held zeros (λ k lt. get_or-replicate places k (pos 0) (pos 0) lt)

-- a trade between two places: what they held before is taken out, and what they hold after put in
module _ (l : List ℤ) (t : Trade) (long : length l ≡ places) where
  abbrev x : ℕ
  x = place_in t.buyer t.buyer_section

  abbrev y : ℕ
  y = place_in t.seller t.seller_section

  pub interest_moved : x < places → y < places → x ≢ y
      → held_in_all (moved l t) + held (at l x) + held (at l y) ≡ held_in_all l + held (at l x +ℤ pos t.quantity) + held (at l y -ℤ pos t.quantity)
  interest_moved lx ly ne =
      let bought = at l x +ℤ pos t.quantity in
      let sold = at l y -ℤ pos t.quantity in
      omega (
        arith,
        interest_set l x bought (omega (arith, long)) lx,
        interest_set (set l x bought) y sold (omega (arith, long, length-set l x bought)) ly,
        ap held (get_or-set_other l x y bought (pos 0) (λ q. ne (sym q))),
      )

-- an evening: what is exercised in all is taken out, and on the last day all
module _ (day : ℕ) (s : Series) where
  abbrev pub left : ℕ → ℤ
  left = remaining places (fixing_of s day) (at s.positions) (amount s.requests) (flag s.declined)

  pub interest_closed : last_day s day ≡ true → held_in_all (table places (closing s day)) ≡ 0
  interest_closed last = none_held _ (λ k lt. get_or_table places (closing s day) k (pos 0) lt ∙ sym (hit (left k) last refl))

  pub interest_exercised : GoodSeries day s → last_day s day ≡ false
      → held_in_all (table places (closing s day)) + exercised_in_all places (fixing_of s day) (at s.positions) (amount s.requests) (flag s.declined) ≡ s.open_interest
  interest_exercised g other =
      omega (
        arith,
        ap held_in_all (table_ext places (closing s day) left (λ k _. sym (past (pos 0) other refl))),
        interest_left (fixing_of s day) s.positions s.requests s.declined g.positions.balance,
        g.interest,
      )
