-- The style: the steps of its reader and writer, and text and reading as each other's inverse.
use Prim.Native.Nat.{ℕ, ◌+◌, ◌≤◌, ◌<◌}
use mathlib.Core.Path.{◌≡◌, refl}
use mathlib.Core.List.{List, [], ◌∷◌, ◌++◌}
use native.Mathlib.Nat.{add-zero}
use native.Mathlib.Omega.{arith}
use lib.ListN.{length, drop}
use Rattle.std.proofs.lemmas.Option.{none-some}
use Rattle.std.specs.Prelude.{Option, Some, None}
use Rattle.decimal.specs.Put.{Put}
use Rattle.decimal.proofs.Places.{here_next}
use Rattle.decimal.specs.Scan.{on_scanned, byte_at}
use Rattle.contract.specs.Bounds.{max_style_text}
use Rattle.contract.specs.Style.{style_text, style_at, on_style}
use Rattle.contract.specs.Strike.{strike_text}
use Rattle.contract.specs.declared.types.Style.{Style}
use Rattle.contract.specs.declared.types.Style.TheVariants.{Blank, NoBlank}
use Rattle.contract.proofs.Scanning.{byte_read, byte_text}
use Rattle.contract.proofs.StrikeField.{strike_no_blank}
use Rattle.decimal.proofs.Choices.{same_value}
use Rattle.decimal.proofs.Choices.{same_next}

-- ---- what follows it, by what its reader answered
module _ {A : Type 0} (x : A) (k : Style → ℕ → A) (r m : Option (Style × ℕ)) where
  pub styled : (y : A) (z : Style) (n : ℕ) → r ≡ m → r ≡ Some (z, n) → y ≡ k z n → y ≡ on_style m x k
  unfolding on_style
  styled y z n p q e = rw (← p, q) e

  pub unstyled : (y : A) → r ≡ m → r ≡ None → y ≡ x → y ≡ on_style m x k
  unfolding on_style
  unstyled y p q e = rw (← p, q) e

pub after_style : {A R : Type 0} (x y : A) →
    (x ≡ y → ⊥) →
    (m : Option (Style × ℕ)) (k : Style → ℕ → A) →
    on_style m x k ≡ y →
    ((z : Style) (n : ℕ) → m ≡ Some (z, n) → k z n ≡ y → R) →
    R
unfolding on_style
after_style x y f (Some (z, n)) k e g = g z n refl e
after_style x y f None k e g = absurd (f e)

-- ---- text and reading
pub style_text_lem : (s : List ℕ) (at : ℕ) (z : Style) (n : ℕ) → style_at s at ≡ Some (z, n) → drop at s ≡ style_text z ++ drop n s
unfolding style_at style_text on_scanned
style_text_lem s at z n e = by_byte (byte_at s at 32) refl e
  where
    by_second : (next : ℕ) →
        drop at s ≡ 32 ∷ drop next s →
        (m : Option ℕ) →
        on_scanned {A = Option (Style × ℕ)} m (Some (Blank, next)) (λ more. None) ≡ Some (z, n) →
        drop at s ≡ style_text z ++ drop n s
    by_second next t None q =
        let a : Blank ≡ z = same_value q in
        let b : next ≡ n = same_next q in
        rw (← a, ← b) t
    by_second next t (Some more) q = absurd (none-some _ q)

    by_byte : (m : Option ℕ) →
        byte_at s at 32 ≡ m →
        on_scanned {A = Option (Style × ℕ)} m (Some (NoBlank, at)) (λ next. on_scanned (byte_at s next 32) (Some (Blank, next)) (λ more. None)) ≡ Some (z, n) →
        drop at s ≡ style_text z ++ drop n s
    by_byte None p q =
        let a : NoBlank ≡ z = same_value q in
        let b : at ≡ n = same_next q in
        rw (← a, ← b)
    by_byte (Some next) p q = by_second next (byte_text s at 32 next p) (byte_at s next 32) q

pub style_read : (s : List ℕ) (at : ℕ) (z : Style) (strike : ℕ) →
    drop at s ≡ style_text z ++ strike_text strike →
    style_at s at ≡ Some (z, at + length (style_text z))
unfolding style_at style_text on_scanned
style_read s at Blank strike e =
    rw (byte_read s at 32 _ e, strike_no_blank s (at + 1) strike (here_next s at 32 (strike_text strike) e))
style_read s at NoBlank strike e = rw (strike_no_blank s at strike e, add-zero)

-- ---- steps of the writer
module _ (z : Style) where
  pub blank_fits : (l : List ℕ) (at : ℕ) → z ≡ Blank → at + length (style_text z) ≤ length l → at < length l
  unfolding style_text
  blank_fits l at e h = let room : at + 1 ≤ length l = rw e at h in omega arith

  pub put_one : (l m : List ℕ) (at p : ℕ) → z ≡ Blank → Put l at (32 ∷ []) m p → Put l at (style_text z) m p
  unfolding style_text
  put_one l m at p e a = rw e a

  pub put_none : (l : List ℕ) (at : ℕ) → z ≡ NoBlank → Put l at (style_text z) l at
  unfolding style_text
  put_none l at e = rw e (record { place = omega arith; bytes = refl })

-- ---- how long it is
pub style_length : (z : Style) → length (style_text z) ≤ max_style_text
unfolding style_text
style_length Blank = omega arith
style_length NoBlank = omega arith
