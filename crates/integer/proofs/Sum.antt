-- Laws of sums of integers.
use mathlib.Core.Path.{◌≡◌, refl, sym, ap, ◌∙◌}
use mathlib.Core.Logic.{◌≢◌}
use mathlib.Core.List.{List}
use Prim.Native.Nat.{ℕ, zero, suc, ◌+◌, ◌*◌, ◌<◌, ◌≤◌}
use native.Mathlib.Nat.{add-zero, add-suc}
use native.Mathlib.Numerals.{add-one}
use native.Mathlib.Decide.{ℕ_discrete}
use native.Mathlib.Omega.{arith}
use lib.IntN.{ℤ, pos, neg_ℤ, nat_abs, ◌+ℤ◌, ◌-ℤ◌, ◌*ℤ◌, +ℤ_idr, +ℤ_assoc, zero-*ℤ}
use lib.ListN.{length, set, replicate, length-set}
use lib.Seq.{get_or-set_same, get_or-set_other}
use Rattle.integer.specs.Parts.{part⁺, part⁻}
use Rattle.integer.proofs.Ring.{split, ring, ⊖_eq, *ℤ_distr, split_pos, cross, uncross, parts_}
use Rattle.integer.proofs.Absolute.{abs_add}
use Rattle.integer.specs.Table.{table, at}
use Rattle.integer.proofs.Table.{get_or_table}
use borrow.Author.Tests.{eq-eqb, ne_eqb}
use lib.Dec.{eqb}
use mathlib.Core.Bool.{cond}
use Rattle.integer.specs.Sum.{sum_to}

pub sum_to_zero : (f : ℕ → ℤ) → sum_to 0 f ≡ pos 0
unfolding sum_to
sum_to_zero f = refl

pub sum_to_suc : (n : ℕ) (f : ℕ → ℤ) → sum_to (suc n) f ≡ sum_to n f +ℤ f n
unfolding sum_to
sum_to_suc n f = refl

-- as a loop's step has it
pub sum_to_next : (n : ℕ) (f : ℕ → ℤ) → sum_to (n + 1) f ≡ sum_to n f +ℤ f n
sum_to_next n f = rw add-one (sum_to_suc n f)

pub sum_ext : (n : ℕ) (f g : ℕ → ℤ) → ((k : ℕ) → k < n → f k ≡ g k) → sum_to n f ≡ sum_to n g
unfolding sum_to
sum_ext zero f g h = refl
sum_ext (suc n) f g h = cc (sum_ext n f g (λ k lt. h k (omega arith)), h n (omega arith))

pub sum_add : (n : ℕ) (f g : ℕ → ℤ) → sum_to n (λ k. f k +ℤ g k) ≡ sum_to n f +ℤ sum_to n g
unfolding sum_to
sum_add zero f g = refl
sum_add (suc n) f g =
    rw (sum_add n f g, split (sum_to n f), split (sum_to n g), split (f n), split (g n)) (simp ring (⊖_eq _ _ _ _ (omega arith)))

pub sum_neg : (n : ℕ) (f : ℕ → ℤ) → sum_to n (λ k. neg_ℤ (f k)) ≡ neg_ℤ (sum_to n f)
unfolding sum_to
sum_neg zero f = refl
sum_neg (suc n) f = rw (sum_neg n f, split (sum_to n f), split (f n)) (simp ring (⊖_eq _ _ _ _ (omega arith)))

pub sum_sub : (n : ℕ) (f g : ℕ → ℤ) → sum_to n (λ k. f k -ℤ g k) ≡ sum_to n f -ℤ sum_to n g
sum_sub n f g = sum_add n f (λ k. neg_ℤ (g k)) ∙ ap (λ (z : ℤ). sum_to n f +ℤ z) (sum_neg n g)

pub sum_mulr : (n : ℕ) (c : ℤ) (f : ℕ → ℤ) → sum_to n (λ k. f k *ℤ c) ≡ sum_to n f *ℤ c
unfolding sum_to
sum_mulr zero c f = sym (zero-*ℤ c)
sum_mulr (suc n) c f = rw (sum_mulr n c f) (sym (*ℤ_distr (sum_to n f) (f n) c))

pub sum_0 : (n : ℕ) → sum_to n (λ k. pos 0) ≡ pos 0
unfolding sum_to
sum_0 zero = refl
sum_0 (suc n) = rw (sum_0 n) refl

-- the order of two sums
pub sum_swap : (n m : ℕ) (f : ℕ → ℕ → ℤ) → sum_to n (λ i. sum_to m (λ j. f i j)) ≡ sum_to m (λ j. sum_to n (λ i. f i j))
unfolding sum_to
sum_swap zero m f = sym (sum_0 m)
sum_swap (suc n) m f = rw (sum_swap n m f) (sym (sum_add m (λ j. sum_to n (λ i. f i j)) (λ j. f n j)))

-- one place is changed
pub sum_change : (n i : ℕ) (f g : ℕ → ℤ) → i < n → ((k : ℕ) → k ≢ i → g k ≡ f k) → sum_to n g ≡ sum_to n f +ℤ (g i -ℤ f i)
unfolding sum_to
sum_change zero i f g lt h = absurd (none lt)
  where
    none : i < 0 → ⊥
    none lt = omega arith
sum_change (suc n) i f g lt h = by (ℕ_discrete i n) (λ l. sum_change n i f g l h)
  where
    by : Dec (i ≡ n) → (i < n → sum_to n g ≡ sum_to n f +ℤ (g i -ℤ f i)) → sum_to n g +ℤ g n ≡ (sum_to n f +ℤ f n) +ℤ (g i -ℤ f i)
    by (yes e) ih =
        rw (e, sum_ext n g f (λ k l. h k (λ q. omega arith)), split (sum_to n f), split (f n), split (g n)) (simp ring (⊖_eq _ _ _ _ (omega arith)))
    by (no ne) ih =
        rw (ih (omega arith), h n (λ e. ne (sym e)), split (sum_to n f), split (f n), split (g i), split (f i)) (simp ring (⊖_eq _ _ _ _ (omega arith)))

-- a function changed at one place
pub put : ℕ → ℤ → (ℕ → ℤ) → ℕ → ℤ
put i v f k = cond (eqb k i) v (f k)

pub put_same : (i : ℕ) (v : ℤ) (f : ℕ → ℤ) → put i v f i ≡ v
unfolding put
put_same i v f = rw (eq-eqb i i refl)

pub put_other : (i : ℕ) (v : ℤ) (f : ℕ → ℤ) (k : ℕ) → k ≢ i → put i v f k ≡ f k
unfolding put
put_other i v f k ne = rw (ne_eqb k i ne)

pub sum_put : (n i : ℕ) (v : ℤ) (f : ℕ → ℤ) → i < n → sum_to n (put i v f) ≡ sum_to n f +ℤ (v -ℤ f i)
sum_put n i v f lt =
    sum_change n i f (put i v f) lt (λ k ne. put_other i v f k ne) ∙ ap (λ (z : ℤ). sum_to n f +ℤ (z -ℤ f i)) (put_same i v f)

-- two places are changed
pub sum_change2 : (n i j : ℕ) (f g : ℕ → ℤ) → i < n → j < n → i ≢ j → ((k : ℕ) → k ≢ i → k ≢ j → g k ≡ f k)
    → sum_to n g ≡ sum_to n f +ℤ (g i -ℤ f i) +ℤ (g j -ℤ f j)
sum_change2 n i j f g li lj ne h =
    sum_change n j (put i (g i) f) g lj (λ k nj. by k nj (ℕ_discrete k i))
    ∙ rw (sum_put n i (g i) f li, put_other i (g i) f j (λ e. ne (sym e))) refl
  where
    by : (k : ℕ) → k ≢ j → Dec (k ≡ i) → g k ≡ put i (g i) f k
    by k nj (yes e) = rw (e, put_same i (g i) f) refl
    by k nj (no ni) = h k ni nj ∙ sym (put_other i (g i) f k ni)

-- a move: q more at i and q less at j leaves the sum as it was
pub sum_move : (n i j : ℕ) (q : ℤ) (f g : ℕ → ℤ) → i < n → j < n → i ≢ j → g i ≡ f i +ℤ q → g j ≡ f j -ℤ q
    → ((k : ℕ) → k ≢ i → k ≢ j → g k ≡ f k) → sum_to n g ≡ sum_to n f
sum_move n i j q f g li lj ne ei ej h =
    sum_change2 n i j f g li lj ne h
    ∙ rw (ei, ej, split (sum_to n f), split (f i), split (f j), split q) (simp ring (⊖_eq _ _ _ _ (omega arith)))

-- how far from zero a sum can be
pub sum_abs : (n B : ℕ) (f : ℕ → ℤ) → ((k : ℕ) → k < n → nat_abs (f k) ≤ B) → nat_abs (sum_to n f) ≤ n * B
unfolding sum_to
sum_abs zero B f h = omega arith
sum_abs (suc n) B f h = omega (arith, abs_add (sum_to n f) (f n), h n (omega arith), sum_abs n B f (λ k lt. h k (omega arith)))

-- ---- lists
pub sum_table : (n : ℕ) (f : ℕ → ℤ) → sum_to n (at (table n f)) ≡ sum_to n f
sum_table n f = sum_ext n (at (table n f)) f (λ k lt. get_or_table n f k (pos 0) lt)

pub at_zeros : (n k : ℕ) → at (replicate n (pos 0)) k ≡ pos 0
at_zeros zero k = refl
at_zeros (suc n) zero = refl
at_zeros (suc n) (suc k) = at_zeros n k

pub sum_zeros : (n m : ℕ) → sum_to m (at (replicate n (pos 0))) ≡ pos 0
sum_zeros n m = sum_ext m (at (replicate n (pos 0))) (λ k. pos 0) (λ k lt. at_zeros n k) ∙ sum_0 m

-- a move on a list: the two places are stored one after the other
pub sum_move_list : (n : ℕ) (l : List ℤ) (i j : ℕ) (q : ℤ) → length l ≡ n → i < n → j < n → i ≢ j
    → sum_to n (at (set (set l i (at l i +ℤ q)) j (at l j -ℤ q))) ≡ sum_to n (at l)
sum_move_list n l i j q e li lj ne =
    let m : List ℤ = set l i (at l i +ℤ q) in
    sum_move n i j q (at l) (at (set m j (at l j -ℤ q))) li lj ne
    (get_or-set_other m j i (at l j -ℤ q) (pos 0) ne ∙ get_or-set_same l i (at l i +ℤ q) (pos 0) (omega arith))
    (get_or-set_same m j (at l j -ℤ q) (pos 0) (omega (arith, length-set l i (at l i +ℤ q))))
    (λ k ni nj. get_or-set_other m j k (at l j -ℤ q) (pos 0) nj ∙ get_or-set_other l i k (at l i +ℤ q) (pos 0) ni)

-- ---- a range in two, and the long and the short side
pub sum_join : (n m : ℕ) (f : ℕ → ℤ) → sum_to (n + m) f ≡ sum_to n f +ℤ sum_to m (λ k. f (n + k))
unfolding sum_to
sum_join n zero f = rw add-zero (sym (+ℤ_idr (sum_to n f)))
sum_join n (suc m) f = rw (add-suc n m, sum_to_suc (n + m) f, sum_join n m f) (+ℤ_assoc (sum_to n f) (sum_to m (λ k. f (n + k))) (f (n + m)))

-- what is held long is what is held short, where the net is zero
pub sum_sides : (n : ℕ) (f : ℕ → ℤ) → sum_to n f ≡ sum_to n (λ k. pos (part⁺ (f k))) -ℤ sum_to n (λ k. pos (part⁻ (f k)))
sum_sides n f = sum_ext n f (λ k. pos (part⁺ (f k)) -ℤ pos (part⁻ (f k))) (λ k lt. split_pos (f k)) ∙ sum_sub n (λ k. pos (part⁺ (f k))) (λ k. pos (part⁻ (f k)))

pub sum_balance : (n : ℕ) (f : ℕ → ℤ) → sum_to n f ≡ pos 0 → sum_to n (λ k. pos (part⁺ (f k))) ≡ sum_to n (λ k. pos (part⁻ (f k)))
sum_balance n f h =
    let x = sum_to n (λ k. pos (part⁺ (f k))) in
    let y = sum_to n (λ k. pos (part⁻ (f k))) in
    uncross x y (omega (arith, parts_ x y, cross (x -ℤ y) (pos 0) (sym (sum_sides n f) ∙ h)))
