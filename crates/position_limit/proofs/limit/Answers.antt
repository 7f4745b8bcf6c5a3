-- `position_limit::limit` meets its contract: the tests are those of the rule, in its order.
use mathlib.Core.Path.{◌≡◌, refl, sym, subst, ◌∙◌}
use lib.IntN.{pos, neg_ℤ, +ℤ_idl}
use mir.Syntax.{w64}
use Rattle.choice.proofs.Chain.{hit, past}
use Rattle.integer.specs.Bounds.{Within}
use Rattle.integer.proofs.Bounds.{within_neg}
use Rattle.integer.proofs.Machine.{Reads, nat, lit, minus, local, fits}
use Rattle.terms.specs.Bounds.{max_quantity}
use Rattle.series.specs.Conditions.{gross_after, passes_limit}
use Rattle.position_limit.proofs.limit.Goals.{After-passes_limit, After-passes_limit-2, After-struct_known-1, Start}
use Rattle.position_limit.proofs.limit.Goals as goal

-- the change of either side
module _ (c : After-struct_known-1) where
  abbrev start : Start
  start = c.before

  abbrev bought : Reads max_quantity (pos start.args.deal.quantity)
  bought = nat w64 start.requires.4 tt

  abbrev sold : Reads max_quantity (neg_ℤ (pos start.args.deal.quantity))
  sold =
      let g = minus (lit (pos 0)) bought in
      record { raw = g.raw; is = g.is ∙ +ℤ_idl (neg_ℤ (pos start.args.deal.quantity)); bound = within_neg bought.bound }

-- what the two calls gave
buyer_passes : (c : After-passes_limit)
    → c.passes_limit.result
    ≡ passes_limit (gross_after (start c.before).args.positions.now (start c.before).args.deal.buyer (start c.before).args.deal.buyer_section (pos (start c.before).args.deal.quantity))
buyer_passes c = rw (bought c.before).is at c.passes_limit.ensures

seller_passes : (c : After-passes_limit-2)
    → c.passes_limit-2.result
    ≡ passes_limit (gross_after (start c.before.before.before).args.positions.now (start c.before.before.before).args.deal.seller (start c.before.before.before).args.deal.seller_section (neg_ℤ (pos (start c.before.before.before).args.deal.quantity)))
seller_passes c = rw (local w64 (sold c.before.before.before) tt).is at c.passes_limit-2.ensures

pub passes_limit-requires : goal.passes_limit-requires
passes_limit-requires c = ((start c).requires.0, (start c).requires.2, subst (Within max_quantity) (sym (bought c).is) (bought c).bound)

pub returns-then-passes_limit : goal.returns-then-passes_limit
returns-then-passes_limit c = hit _ (sym (buyer_passes c.before) ∙ c.if-passes_limit.true) refl

pub overflow_sub-quantity : goal.overflow_sub-quantity
overflow_sub-quantity c = fits w64 (sold c.before.before) tt

pub passes_limit-requires-2 : goal.passes_limit-requires-2
passes_limit-requires-2 c =
    let s = c.before.before in
    ((start s).requires.1, (start s).requires.3, subst (Within max_quantity) (sym (local w64 (sold s) tt).is) (sold s).bound)

pub returns-then-passes_limit-2 : goal.returns-then-passes_limit-2
returns-then-passes_limit-2 c =
    past _ (sym (buyer_passes c.before.before.before) ∙ c.if-passes_limit.false)
    (hit _ (sym (seller_passes c.before) ∙ c.if-passes_limit-2.true) refl)

pub returns : goal.returns
returns c =
    past _ (sym (buyer_passes c.before.before.before) ∙ c.if-passes_limit.false)
    (past _ (sym (seller_passes c.before) ∙ c.if-passes_limit-2.false) refl)
