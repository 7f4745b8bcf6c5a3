-- `trade_verdict::trade_verdict` meets its contract: the conditions are those of the rule, in its order.
use Rattle.std.specs.Prelude.{Ok, Err, IsErrAnd}
use Rattle.std.proofs.lemmas.Result.{err_from_is_err_and}
use mathlib.Core.Path.{◌≡◌, refl, sym, ap, ◌∙◌}
use borrow.Author.Tests.{le-ltb, le-leb, lt-leb}
use Rattle.choice.specs.Choice.{choose}
use Rattle.choice.proofs.Chain.{hit, past, tests}
use Rattle.series.specs.Series.{past_last}
use Rattle.series.specs.declared.refusal.Refusal.{Refusal}
use Rattle.series.specs.declared.refusal.Refusal.TheVariants.{Finished, UnknownSeries, Expired}
use Rattle.series.specs.Refusals.{Verdict}
use Rattle.book.specs.Verdicts.{and_then, finished, unlisted, parties_verdict, price_verdict, limit_verdict}
use Rattle.book.proofs.Allowed.{parties_allowed, price_allowed}
use Rattle.book.proofs.Decided.{group_refused, group_passed}
use Rattle.trade_verdict.proofs.trade_verdict.Goals.{Else-listing-today, In_ok-parties, In_ok-limit, In_ok-price}
use Rattle.trade_verdict.proofs.trade_verdict.Goals as goal

-- the first three conditions fail
opened : (c : Else-listing-today) → {z v : Verdict} → z ≡ v
    → z ≡ choose (finished c.args.today) (Err Finished)
    (choose (unlisted c.args.today c.args.deal.series) (Err UnknownSeries)
    (choose (past_last c.args.listing c.args.today.day) (Err Expired)
    v))
opened c e =
    past _ (le-ltb _ _ c.if-today-gt-FINAL_DAY.false)
    (past _ (lt-leb _ _ c.if-today-deal.false)
    (past _ (le-ltb _ _ c.if-listing-today.false) e))

-- a refusal of one group is handed on
handed_on : (r : Verdict) {why : Refusal} {v : Verdict} (w : Verdict) → IsErrAnd r (λ y. y ≡ why) → Err why ≡ v → r ≡ and_then v w
handed_on r w s e = let p = err_from_is_err_and r s in group_refused w (p.1 ∙ ap Err p.2) e

-- and so does each group of conditions after them
parties_pass : (c : In_ok-parties) → Ok tt ≡ parties_verdict c.args.deal
parties_pass c = c.in_ok-parties.ensures

price_passes : (c : In_ok-price) → Ok tt ≡ price_verdict c.args.listing.tick c.args.deal
price_passes c = c.in_ok-price.ensures

limit_passes : (c : In_ok-limit) → Ok tt ≡ limit_verdict c.args.positions.now c.args.deal
limit_passes c = c.in_ok-limit.ensures

pub returns-then-today-gt-FINAL_DAY : goal.returns-then-today-gt-FINAL_DAY
returns-then-today-gt-FINAL_DAY c = search (hit, past, tests) depth 28

pub returns-then-today-deal : goal.returns-then-today-deal
returns-then-today-deal c = search (hit, past, tests) depth 28

pub returns-then-listing-today : goal.returns-then-listing-today
returns-then-listing-today c = search (hit, past, tests) depth 28

pub returns-in_err-parties : goal.returns-in_err-parties
returns-in_err-parties c =
    opened (goal.at.returns-in_err-parties c).Else-listing-today
    (handed_on c.from_residual.result _ c.from_residual.ensures.1 c.in_err-parties.ensures)

pub price-requires : goal.price-requires
price-requires c = c.requires c.if-today-deal.false

pub returns-in_err-price : goal.returns-in_err-price
returns-in_err-price c =
    let at = goal.at.returns-in_err-price c in
    opened at.Else-listing-today
    (group_passed (handed_on c.from_residual-in_err-price.result _ c.from_residual-in_err-price.ensures.1 c.in_err-price.ensures) (parties_pass at.In_ok-parties))

pub limit-requires : goal.limit-requires
limit-requires c =
    let at = goal.at.limit-requires c in
    let p = parties_allowed c.args.deal (sym (parties_pass at.In_ok-parties)) in
    let q = price_allowed c.args.listing.tick c.args.deal (sym (price_passes at.In_ok-price)) in
    (p.buyer, p.seller, p.buyer_section, p.seller_section, q.most)

pub returns-in_err-limit : goal.returns-in_err-limit
returns-in_err-limit c =
    let at = goal.at.returns-in_err-limit c in
    opened at.Else-listing-today
    (group_passed
    (group_passed (handed_on c.from_residual-in_err-limit.result _ c.from_residual-in_err-limit.ensures.1 c.in_err-limit.ensures) (price_passes at.In_ok-price))
    (parties_pass at.In_ok-parties))

pub returns-then-today-ge-BLOTTER : goal.returns-then-today-ge-BLOTTER
returns-then-today-ge-BLOTTER c =
    let at = goal.at.returns-then-today-ge-BLOTTER c in
    opened at.Else-listing-today
    (group_passed
    (group_passed (group_passed (hit _ (le-leb _ _ c.if-today-ge-BLOTTER.true) refl) (limit_passes at.In_ok-limit)) (price_passes at.In_ok-price))
    (parties_pass at.In_ok-parties))

pub returns : goal.returns
returns c =
    let at = goal.at.returns c in
    opened at.Else-listing-today
    (group_passed
    (group_passed (group_passed (past _ (lt-leb _ _ c.if-today-ge-BLOTTER.false) refl) (limit_passes at.In_ok-limit)) (price_passes at.In_ok-price))
    (parties_pass at.In_ok-parties))
