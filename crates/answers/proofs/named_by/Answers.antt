-- `answers::named_by` meets its contract.
use Rattle.std.specs.Prelude.{None}
use mathlib.Core.Path.{◌≡◌, refl}
use Prim.Native.Nat.{ℕ}
use Rattle.series.specs.declared.refusal.Refusal.{Refusal}
use Rattle.series.specs.declared.refusal.Refusal.TheVariants.{Finished, UnknownSeries, Expired, UnknownAccount, UnknownSection, OwnTrade, Size, Price, PositionLimit, BlotterFull, Terms, SeriesFull, NotToday, NotHeld, TickValue, SecondIntraday, NoMark}
use Rattle.book.specs.Answers.{named_by}
use Rattle.answers.proofs.named_by.Goals as goal

unnamed : (why : Refusal) → ((i : ℕ) → why ≡ NoMark i → ⊥) → None ≡ named_by why
unfolding named_by
unnamed Finished h = refl
unnamed UnknownSeries h = refl
unnamed Expired h = refl
unnamed UnknownAccount h = refl
unnamed UnknownSection h = refl
unnamed OwnTrade h = refl
unnamed Size h = refl
unnamed Price h = refl
unnamed PositionLimit h = refl
unnamed BlotterFull h = refl
unnamed Terms h = refl
unnamed SeriesFull h = refl
unnamed NotToday h = refl
unnamed NotHeld h = refl
unnamed TickValue h = refl
unnamed SecondIntraday h = refl
unnamed (NoMark i) h = absurd (h i refl)

pub returns-in-NoMark : goal.returns-in-NoMark
unfolding named_by
returns-in-NoMark c = rw c.in-NoMark.is

pub returns-in_default : goal.returns-in_default
unfolding named_by
returns-in_default c = unnamed c.args.why c.in_default.not-NoMark
