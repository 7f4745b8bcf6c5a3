-- Every byte of a text has a property.
use Prim.Native.Nat.{ℕ, zero, suc, ◌/◌, ◌%◌, ◌≤◌, ◌<◌}
use mathlib.Core.Path.{◌≡◌, refl, subst}
use mathlib.Core.Bool.{Bool, true, false}
use mathlib.Core.List.{List, [], ◌∷◌, ◌++◌}
use native.Mathlib.Nat.{le_refl}
use native.Mathlib.Omega.{arith}
use lib.ListN.{length, get_or}
use lib.Dec.{ltb}
use borrow.Author.Tests.{ltb-true, ltb-false}
use Rattle.decimal.specs.Text.{digit_byte, decimal, decimal_small, decimal_step}

abbrev pub Each : (ℕ → Type 0) → List ℕ → Type 0
Each P [] = Unit {0}
Each P (b ∷ bs) = P b × Each P bs

module _ (P : ℕ → Type 0) where
  pub each_join : (l m : List ℕ) → Each P l → Each P m → Each P (l ++ m)
  each_join [] m u v = v
  each_join (b ∷ bs) m u v = (u.0, each_join bs m u.1 v)

  pub each_at : (l : List ℕ) → Each P l → (i : ℕ) → i < length l → P (get_or l i 0)
  each_at [] u i h = absurd (omega arith)
  each_at (b ∷ bs) u zero h = u.0
  each_at (b ∷ bs) u (suc i) h = each_at bs u.1 i (omega arith)

  -- a byte without the property stands nowhere in it
  pub each_not : (c : ℕ) → 0 < c → (P c → ⊥) → (l : List ℕ) → Each P l → (i : ℕ) → get_or l i 0 ≡ c → ⊥
  each_not c h n [] u i e = omega arith
  each_not c h n (b ∷ bs) u zero e = n (subst P e u.0)
  each_not c h n (b ∷ bs) u (suc i) e = each_not c h n bs u.1 i e

  -- a number, where every digit has it
  module _ (each : (d : ℕ) → d ≤ 9 → P (digit_byte d)) where
    digits : (k v : ℕ) → v ≤ k → Each P (decimal v)
    digits zero v h = rw (decimal_small v (omega arith)) (each (v % 10) (omega arith), tt)
    digits (suc k) v h = by_test (ltb v 10) refl (digits k (v / 10))
      where
        by_test : (t : Bool) → ltb v 10 ≡ t → (v / 10 ≤ k → Each P (decimal (v / 10))) → Each P (decimal v)
        by_test true e ih = rw (decimal_small v (ltb-true v 10 e)) (each (v % 10) (omega arith), tt)
        by_test false e ih =
            rw (decimal_step v (ltb-false v 10 e))
            (each_join (decimal (v / 10)) _ (ih (omega (arith, ltb-false v 10 e))) (each (v % 10) (omega arith), tt))

    pub decimal_each : (v : ℕ) → Each P (decimal v)
    decimal_each v = digits v v (le_refl v)
