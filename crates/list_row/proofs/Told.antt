-- What a Result was before its refusal was told as another's.
use mathlib.Core.Path.{◌≡◌, refl, sym, ap, ◌∙◌, subst}
use Rattle.decimal.proofs.Choices.{same_ok, err_ok}
use Rattle.std.specs.Prelude.{Result, Ok, Err}
use Rattle.std.specs.Result.{MatchResult, IsErrAnd}

module _ {T E D : Type 0} (Q : E → D → Type 0) where
  pub told_ok : (r : Result T E) (s : Result T D) (x : T) → MatchResult r (λ y. s ≡ Ok y) (λ e. IsErrAnd s (Q e)) → s ≡ Ok x → r ≡ Ok x
  told_ok (Ok y) s x h p = ap (λ z. Ok z) (same_ok y x (sym h ∙ p))
  told_ok (Err e) s x h p = absurd (subst (λ z. IsErrAnd z (Q e)) p h)

  pub told_err :
      (r : Result T E)
      (s : Result T D)
      (y : D) →
      MatchResult r (λ x. s ≡ Ok x) (λ e. IsErrAnd s (Q e)) →
      s ≡ Err y →
      (e : E) × (r ≡ Err e) × Q e y
  told_err (Ok x) s y h p = absurd (err_ok y x (sym p ∙ h))
  told_err (Err e) s y h p = (e, refl, subst (λ z. IsErrAnd z (Q e)) p h)

module _ {T D : Type 0} where
  pub same_err : (y z : D) → ◌≡◌ {A = Result T D} (Err y) (Err z) → y ≡ z
  same_err y z e = cc
