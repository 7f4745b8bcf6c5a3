-- `writers::by_largest_remainders` meets its contract: after each turn one place more is served, in the order of their ranks. Assumes nothing.
use borrow.Author.Tests.{le-ltb}
use mathlib.Core.Path.{◌≡◌, sym, ap, ◌∙◌, subst}
use mathlib.Core.List.{List}
use Prim.Native.Nat.{ℕ, ◌≤◌, ◌<◌, ◌-◌}
use native.Mathlib.Omega.{arith}
use lib.Dec.{ltb}
use Rattle.integer.specs.Sum.{sumℕ, bit, count}
use Rattle.integer.proofs.NatSum.{sumℕ_ext, sumℕ_term}
use Rattle.integer.proofs.Count.{count_most}
use Rattle.integer.specs.Table.{table}
use Rattle.integer.proofs.Table.{get_or_table}
use Rattle.exercise.specs.declared.types.Shares.{Shares}
use Rattle.places.specs.Places.{places, amount}
use Rattle.exercise.specs.Assignment.{whole_part, remainder, rank, assigned}
use Rattle.writers.proofs.Leftovers as law
use Rattle.writers.proofs.by_largest_remainders.Goals.{After-loop-place, After-shares-parts}
use Rattle.writers.proofs.by_largest_remainders.Goals as goal

-- what is known once the shares are worked out
module _ (c : After-shares-parts) where
  abbrev e : ℕ
  e = c.args.exercised

  abbrev w : ℕ → ℕ
  w = amount c.args.shorts

  -- what the writers are short in all
  kept : c.args.interest ≡ sumℕ places w
  kept = c.requires.3

  abbrev whole : List ℕ
  whole = c.shares-parts.result.whole

  abbrev rest : List ℕ
  rest = c.shares-parts.result.remainder

  some : 0 < e
  some = c.requires.0

  enough : e ≤ sumℕ places w
  enough = omega (arith, kept, c.requires.1)

  whole_is : whole ≡ table places (whole_part e (sumℕ places w) w)
  whole_is = ap (λ (s : Shares). s.whole) c.shares-parts.ensures ∙ ap (λ (o : ℕ). table places (whole_part e o w)) kept

  rest_is : rest ≡ table places (remainder e (sumℕ places w) w)
  rest_is = ap (λ (s : Shares). s.remainder) c.shares-parts.ensures ∙ ap (λ (o : ℕ). table places (remainder e o w)) kept

  in_all : sumℕ places (amount whole) ≤ e
  in_all = law.whole_most places e w whole rest some enough whole_is rest_is

  -- what is given out as whole contracts
  given_is : c.shares-parts.result.given ≡ sumℕ places (amount whole)
  given_is =
      ap (λ (s : Shares). s.given) c.shares-parts.ensures
      ∙ ap (λ (o : ℕ). sumℕ places (whole_part e o w)) kept
      ∙ sym (sumℕ_ext places (amount whole) (whole_part e (sumℕ places w) w) (λ k lt. ap (λ (l : List ℕ). amount l k) whole_is ∙ get_or_table places (whole_part e (sumℕ places w) w) k 0 lt))

  left_few : e - c.shares-parts.result.given ≤ count places (λ k. ltb 0 (amount rest k))
  left_few = omega (arith, given_is, law.left_remainders places e w whole rest some enough whole_is rest_is)

  all : (out rest' : List ℕ) → law.Served places (amount rest) (amount whole) out rest' (e - c.shares-parts.result.given) → out ≡ table places (assigned places e w)
  all out rest' S =
      law.all_served places e w whole rest some enough whole_is rest_is out rest'
      (subst (λ (t : ℕ). law.Served places (amount rest) (amount whole) out rest' (e - t)) given_is S)

pub overflow_sub-left : goal.overflow_sub-left
overflow_sub-left c = let b = (goal.at.overflow_sub-left c).After-shares-parts in omega (arith, in_all b, given_is b)

-- the place found is the next to be served
module _ (c : After-loop-place) where
  abbrev ready : After-shares-parts
  ready = c.before.before.before.before.before.before.before

  found : law.Largest places (amount c.loop.rest) c.loop-place.largest
  found =
      let end : c.loop-place.place ≡ places = omega arith in
      subst (λ (n : ℕ). law.Largest n (amount c.loop.rest) c.loop-place.largest) end c.loop-place.invariant.1

  next : rank places (amount (rest ready)) c.loop-place.largest ≡ c.loop.counter
  next =
      let l = c.loop in
      law.next_served places (amount (rest ready)) (amount (whole ready)) l.out l.rest l.counter c.loop-place.largest l.invariant.1
      (omega (arith, left_few ready)) (omega (arith, left_few ready, count_most places (λ k. ltb 0 (amount (rest ready) k)))) found

pub overflow_add-out : goal.overflow_add-out
overflow_add-out c =
    let l = c.loop in
    let m = c.loop-place.largest in
    let b = ready c in
    omega (
      arith,
      l.invariant.1.gets m (found c).below,
      ap bit (le-ltb (rank places (amount (rest b)) m) l.counter (omega (arith, next c))),
      sumℕ_term places (amount (whole b)) m (found c).below,
      in_all b,
      given_is b,
      b.requires,
    )

pub loop-preserved : goal.loop-preserved
loop-preserved c =
    let l = c.loop in
    let b = ready c in
    (omega arith, law.served_more places (amount (rest b)) (amount (whole b)) l.out l.rest l.counter c.loop-place.largest l.invariant.1 (found c).below (next c))

pub returns : goal.returns
returns c =
    let b = (goal.at.returns c).After-shares-parts in
    let l = c.loop in
    let end : l.counter ≡ e b - b.shares-parts.result.given = omega arith in
    all b l.out l.rest (rw end at l.invariant.1)
