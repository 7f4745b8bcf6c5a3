-- Bounds are kept as numerals: that a bound is in the range of a type is then `tt`.
use mathlib.Core.Path.{◌≡◌}
use mathlib.Core.List.{List}
use Prim.Native.Nat.{ℕ, ◌+◌, ◌*◌, ◌<◌, ◌≤◌, ◌^◌}
use native.Mathlib.Nat.{lt_of_le_of_lt, le_trans}
use native.Mathlib.Omega.{arith}
use native.Mathlib.Decide.{ℕ_discrete, dec_lt}
use lib.Dec.{T, ltb, ltb→lt}
use lib.IntN.{ℤ, pos, neg_ℤ, nat_abs, ◌+ℤ◌, ◌-ℤ◌, ◌*ℤ◌}
use lib.ListN.{length, set, replicate, get_or-eq_default}
use lib.Seq.{get_or-set_same, get_or-set_other, set_out}
use mir.Syntax.{Width}
use mir.Val.{SFits, hbits}
use Rattle.integer.proofs.Absolute.{abs_add, abs_sub, abs_neg, abs_mul_le, sfits_abs}
use Rattle.integer.specs.Table.{table, at}
use Rattle.integer.proofs.Table.{length_table, get_or_table, not_below}
use Rattle.integer.specs.Sum.{sum_to}
use Rattle.integer.proofs.Sum.{sum_abs, at_zeros}
use Rattle.integer.specs.Bounds.{Within, Bounded}

-- B is in the range of a width
abbrev pub InRange : Width → ℕ → Type 0
InRange w B = T (ltb B (2 ^ hbits w))

pub within_fits : (w : Width) {B : ℕ} {x : ℤ} → Within B x → InRange w B → SFits w x
within_fits w {B} {x} h t = sfits_abs x (lt_of_le_of_lt h.abs (ltb→lt B (2 ^ hbits w) t))

pub within_le : {A B : ℕ} {x : ℤ} → Within A x → A ≤ B → Within B x
within_le h k = record { abs = le_trans h.abs k }

pub within_itself : (x : ℤ) → Within (nat_abs x) x
within_itself x = record { abs = omega arith }

pub within_pos : {B n : ℕ} → n ≤ B → Within B (pos n)
within_pos h = record { abs = h }

pub within_add : {A B : ℕ} {x y : ℤ} → Within A x → Within B y → Within (A + B) (x +ℤ y)
within_add {x = x} {y = y} h k = record { abs = omega (arith, abs_add x y) }

pub within_sub : {A B : ℕ} {x y : ℤ} → Within A x → Within B y → Within (A + B) (x -ℤ y)
within_sub {x = x} {y = y} h k = record { abs = omega (arith, abs_sub x y) }

pub within_neg : {A : ℕ} {x : ℤ} → Within A x → Within A (neg_ℤ x)
within_neg {x = x} h = record { abs = omega (arith, abs_neg x) }

pub within_mul : {A B : ℕ} {x y : ℤ} → Within A x → Within B y → Within (A * B) (x *ℤ y)
within_mul {A} {B} {x} {y} h k = record { abs = abs_mul_le x y A B h.abs k.abs }

-- ---- lists
pub within_sum : (n : ℕ) {B : ℕ} (f : ℕ → ℤ) → ((k : ℕ) → k < n → Within B (f k)) → Within (n * B) (sum_to n f)
within_sum n {B} f h = record { abs = sum_abs n B f (λ k lt. (h k lt).abs) }

pub bounded_at : {B n : ℕ} (l : List ℤ) → length l ≡ n → ((k : ℕ) → k < n → Within B (at l k)) → Bounded B l
bounded_at {B} {n} l e h = record { each = λ k. by k (dec_lt k n) }
  where
    by : (k : ℕ) → Dec (k < n) → Within B (at l k)
    by k (yes lt) = h k lt
    by k (no ge) = rw (get_or-eq_default l (pos 0) {n = k} (rw e (not_below k n ge))) (within_pos (omega arith))

pub bounded_le : {A B : ℕ} {l : List ℤ} → Bounded A l → A ≤ B → Bounded B l
bounded_le h k = record { each = λ j. within_le (h.each j) k }

pub bounded_set : {B : ℕ} {l : List ℤ} (i : ℕ) {v : ℤ} → Bounded B l → Within B v → Bounded B (set l i v)
bounded_set {B} {l} i {v} h k = record { each = λ j. by j (ℕ_discrete j i) (dec_lt i (length l)) }
  where
    by : (j : ℕ) → Dec (j ≡ i) → Dec (i < length l) → Within B (at (set l i v) j)
    by j (yes e) (yes lt) = rw (e, get_or-set_same l i v (pos 0) lt) k
    by j (yes e) (no ge) = rw (set_out l i v (not_below i (length l) ge)) (h.each j)
    by j (no ne) _ = rw (get_or-set_other l i j v (pos 0) ne) (h.each j)

pub bounded_table : {B : ℕ} (n : ℕ) (f : ℕ → ℤ) → ((k : ℕ) → k < n → Within B (f k)) → Bounded B (table n f)
bounded_table n f h = bounded_at (table n f) (length_table n f) (λ k lt. rw (get_or_table n f k (pos 0) lt) (h k lt))

pub bounded_zeros : (B n : ℕ) → Bounded B (replicate n (pos 0))
bounded_zeros B n = record { each = λ k. rw (at_zeros n k) (within_pos (omega arith)) }
