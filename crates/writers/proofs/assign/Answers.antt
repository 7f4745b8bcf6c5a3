-- `writers::assign` meets its contract. Assumes nothing.
use Rattle.std.proofs.Common.{rules}
use mathlib.Core.Path.{refl, sym, ap, ◌∙◌}
use Prim.Native.Nat.{ℕ}
use native.Mathlib.Omega.{arith}
use lib.ListN.{get_or-replicate}
use Rattle.integer.specs.Table.{at, table}
use Rattle.integer.proofs.Table.{is_table}
use Rattle.places.specs.Places.{places}
use Rattle.exercise.specs.Exercise.{short}
use Rattle.exercise.specs.Assignment.{assigned}
use Rattle.exercise.proofs.Assigning.{none_assigned}
use Rattle.writers.proofs.Arrays.{shorts_in_all, shorts_assigned}
use Rattle.writers.proofs.assign.Goals as goal

pub returns-then-exercised-eq0 : goal.returns-then-exercised-eq0
returns-then-exercised-eq0 c =
    let w : ℕ → ℕ = λ k. short (at c.args.positions k) in
    is_table places (assigned places c.args.exercised w) _ 0 refl
    (λ k l. get_or-replicate places k 0 0 l ∙ sym (ap (λ (e : ℕ). assigned places e w k) c.if-exercised-eq0.true ∙ none_assigned places w k))

pub by_largest_remainders-requires : goal.by_largest_remainders-requires
by_largest_remainders-requires c =
    let w = c.short_by_place in (
      omega (arith, c.from.ensures),
      omega (arith, c.requires.0, c.from.ensures, c.from-2.ensures),
      search rules,
      c.from-2.ensures ∙ c.requires.1 ∙ shorts_in_all c.args.positions w.result w.ensures,
    )

pub returns : goal.returns
returns c =
    let w = c.short_by_place in
    c.by_largest_remainders.ensures
    ∙ shorts_assigned c.args.positions w.result w.ensures c.from.result
    ∙ ap (λ (e : ℕ). table places (assigned places e (λ k. short (at c.args.positions k)))) c.from.ensures
