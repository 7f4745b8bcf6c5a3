-- `requests::effect::exercise` meets its contract: the effect by the verdict.
use mathlib.Core.Path.{refl}
use Rattle.book.proofs.Effects.{effect_refused, effect_allowed}
use Rattle.book.proofs.Decided.{verdict_is}
use Rattle.requests.proofs.effect.exercise.Goals as goal

pub returns-in-Err : goal.returns-in-Err
returns-in-Err c = effect_refused _ refl (verdict_is c.exercise_verdict.ensures c.in-Err.is)

pub returns : goal.returns
returns c = effect_allowed _ refl (verdict_is c.exercise_verdict.ensures c.in_default.is)
