-- `code_fields::kind::category` meets its contract.
use Prim.Native.Nat.{◌≤◌}
use mathlib.Core.Path.{◌≡◌, ◌∙◌}
use mathlib.Core.Logic.{inl, inr}
use Rattle.std.specs.Prelude.{◌⊎◌, ◌<◌}
use lib.ListN.{length}
use Rattle.std.proofs.lemmas.Bool.{cases_lt}
use Rattle.contract.proofs.KindField.{category_past}
use Rattle.contract.specs.Kind.{category_at, category_byte}
use Rattle.code_fields.proofs.kind.category.Goals as goal

pub returns : goal.returns
unfolding category_at category_byte
returns c = by_place (cases_lt c.args.at (length c.args.s.now))
  where
    by_place : (c.args.at < length c.args.s.now) ⊎ (length c.args.s.now ≤ c.args.at) → c.either.result ≡ category_at c.args.s.now c.args.at
    by_place (inl h) = c.either.ensures.within h
    by_place (inr h) = c.either.ensures.past h ∙ category_past _ _ h
