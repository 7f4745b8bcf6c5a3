-- `holders::exercised` meets its contract. Assumes nothing.
use mathlib.Core.Path.{◌≡◌, refl, ap, ap₂, ◌∙◌}
use Prim.Native.Nat.{min, max}
use mir.Facts.{to_z-of_z}
use Rattle.choice.proofs.Chain.{hit, past}
use Rattle.exercise.specs.Exercise.{held, automatic, exercised}
use Rattle.holders.proofs.exercised.Goals.{After-min-wanted}
use Rattle.holders.proofs.exercised.Goals as goal

-- what is wanted, unless it is declined
module _ (c : After-min-wanted) where
  wants : c.min-wanted.result ≡
      min (held c.args.position)
      (max c.args.request
      (automatic c.args.fixing (held c.args.position)))
  wants =
      let s = c.before.before.before.before in
      let h = c.held-h.ensures ∙ ap held (to_z-of_z s.ranges.position) in
      c.min-wanted.ensures
      ∙ ap₂ min h (c.max.ensures ∙ ap (max s.args.request) (c.automatic.ensures ∙ ap (automatic s.args.fixing) h))

pub returns-then-declined : goal.returns-then-declined
unfolding exercised
returns-then-declined c = hit _ c.if-declined.true refl

pub returns-else-declined : goal.returns-else-declined
unfolding exercised
returns-else-declined c = past _ c.if-declined.false (wants c.before)
