-- `marking::effect::mark` meets its contract: the effect by the verdict.
use mathlib.Core.Path.{refl, sym, ap, ◌∙◌}
use Rattle.book.specs.declared.state.Effect.TheVariants.{Marked}
use Rattle.book.proofs.Allowed.{MarkAllowed, mark_allowed}
use Rattle.book.proofs.Effects.{effect_refused, effect_allowed}
use Rattle.book.proofs.Decided.{verdict_is}
use Rattle.marking.proofs.effect.mark.Goals.{In_default, Start}
use Rattle.marking.proofs.effect.mark.Goals as goal

abbrev start : In_default → Start
start c = c.before.before

-- the verdict allows it
allowed : (c : In_default) → MarkAllowed (start c).args.today (start c).args.listing (start c).args.quote
allowed c = mark_allowed (start c).args.today (start c).args.listing (start c).args.quote (sym c.mark_verdict.ensures ∙ c.in_default.is)

pub returns-in-Err : goal.returns-in-Err
returns-in-Err c = effect_refused _ refl (verdict_is c.mark_verdict.ensures c.in-Err.is)

pub mark-m-requires : goal.mark-m-requires
mark-m-requires c =
    let a = allowed c in
    record { option = a.option; future = a.future; tick_value = a.tick_value; coefficient = a.coefficient }

pub returns : goal.returns
returns c = effect_allowed _ (ap Marked c.mark-m.ensures) (verdict_is c.mark_verdict.ensures c.in_default.is)
