-- What an effect of another kind leaves as it stood, and answers, by the number of its kind as a `_` arm knows it.
use mathlib.Core.Path.{◌≡◌, refl}
use mathlib.Core.List.{[], ◌∷◌}
use Prim.Native.Nat.{ℕ}
use denote.Enum.Declared.{tag_of}
use types.Run.{OneOf, miss}
use Rattle.margin.specs.declared.trade.Trade.{Trade}
use Rattle.book.specs.Effects.{record_by, trades_by, answer_by}
use Rattle.book.specs.declared.state.Answer.TheVariants.{Done}
use Rattle.book.specs.declared.state.Effect.{Effect}
use Rattle.book.specs.declared.state.Effect.TheVariants.{Refused, Traded, Requested, Declined, Marked}
use Rattle.book.specs.contracts.state.Effect as laid

pub no_entry : (e : Effect) (x : Trade) → OneOf (0 ∷ 2 ∷ 3 ∷ 4 ∷ []) (tag_of laid.the_type e) → x ≡ record_by e x
no_entry (Refused why) x k = refl
no_entry (Traded t) x k = absurd (miss (0 ∷ 2 ∷ 3 ∷ 4 ∷ []) 1 tt k)
no_entry (Requested r) x k = refl
no_entry (Declined w) x k = refl
no_entry (Marked m) x k = refl

pub not_counted : (e : Effect) (x : ℕ) → OneOf (0 ∷ 2 ∷ 3 ∷ 4 ∷ []) (tag_of laid.the_type e) → x ≡ trades_by e x
not_counted (Refused why) x k = refl
not_counted (Traded t) x k = absurd (miss (0 ∷ 2 ∷ 3 ∷ 4 ∷ []) 1 tt k)
not_counted (Requested r) x k = refl
not_counted (Declined w) x k = refl
not_counted (Marked m) x k = refl

pub carried_out_lem : (e : Effect) → OneOf (2 ∷ 3 ∷ 4 ∷ []) (tag_of laid.the_type e) → Done ≡ answer_by e
carried_out_lem (Refused why) k = absurd (miss (2 ∷ 3 ∷ 4 ∷ []) 0 tt k)
carried_out_lem (Traded t) k = absurd (miss (2 ∷ 3 ∷ 4 ∷ []) 1 tt k)
carried_out_lem (Requested r) k = refl
carried_out_lem (Declined w) k = refl
carried_out_lem (Marked m) k = refl
