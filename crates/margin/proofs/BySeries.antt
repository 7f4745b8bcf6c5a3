-- Laws of amounts by series and account.
use mathlib.Core.Path.{◌≡◌, refl, sym, ap, ◌∙◌}
use mathlib.Core.Logic.{◌≢◌}
use mathlib.Core.List.{List}
use Prim.Native.Nat.{ℕ, ◌+◌, ◌/◌, ◌%◌, ◌<◌}
use native.Mathlib.Nat.{div-eq_of_lt-le, div-add-mod', mod-lt}
use native.Mathlib.Decide.{ℕ_discrete}
use native.Mathlib.Omega.{arith}
use lib.Dec.{eqb}
use lib.IntN.{ℤ, pos}
use lib.ListN.{length, set, replicate, length-set, length-replicate}
use lib.Seq.{get_or-set_same, get_or-set_other}
use borrow.Author.Tests.{eq-eqb, ne_eqb}
use Rattle.choice.specs.Choice.{choose}
use Rattle.integer.specs.Bounds.{Within, Bounded}
use Rattle.integer.proofs.Bounds.{bounded_table}
use Rattle.integer.proofs.Sum.{at_zeros}
use Rattle.integer.specs.Table.{at}
use Rattle.integer.proofs.Table.{length_table, get_or_table, is_table, table_ext}
use Rattle.terms.specs.Bounds.{accounts, series_room}
use Rattle.margin.specs.BySeries.{cell, cells, by_series, in_series}

-- ---- where an amount is
pub cell_below : (i a : ℕ) → i < series_room → a < accounts → cell i a < cells
cell_below i a h k = omega arith

pub cell_series : (i a : ℕ) → a < accounts → cell i a / accounts ≡ i
cell_series i a h = div-eq_of_lt-le accounts (omega arith) (omega arith)

pub cell_account : (i a : ℕ) → a < accounts → cell i a % accounts ≡ a
cell_account i a h = omega (arith, cell_series i a h, div-add-mod' (cell i a) accounts)

-- the series and the account of a place
pub series_below : (k : ℕ) → k < cells → k / accounts < series_room
series_below k h = omega (arith, div-add-mod' k accounts)

pub account_below : (k : ℕ) → k % accounts < accounts
account_below k = mod-lt k (omega arith)

pub cell_back : (k : ℕ) → cell (k / accounts) (k % accounts) ≡ k
cell_back k = div-add-mod' k accounts

-- ---- an array that holds the amounts f
pub record Holds (l : List ℤ) (f : ℕ → ℕ → ℤ) : Type 0 where
  pub len : length l ≡ cells
  pub each : (i a : ℕ) → i < series_room → a < accounts → at l (cell i a) ≡ f i a

pub at_by_series : (f : ℕ → ℕ → ℤ) (i a : ℕ) → i < series_room → a < accounts → at (by_series f) (cell i a) ≡ f i a
at_by_series f i a h k =
    get_or_table cells (λ k. f (k / accounts) (k % accounts)) (cell i a) (pos 0) (cell_below i a h k)
    ∙ (λ j. f (cell_series i a k j) (cell_account i a k j))

pub holds_table : (f : ℕ → ℕ → ℤ) → Holds (by_series f) f
holds_table f = record { len = length_table cells _; each = at_by_series f }

pub is_by_series : {l : List ℤ} {f : ℕ → ℕ → ℤ} → Holds l f → l ≡ by_series f
is_by_series {l} {f} h =
    is_table cells _ l (pos 0) h.len
    (λ k lt. ap (at l) (sym (cell_back k)) ∙ h.each (k / accounts) (k % accounts) (series_below k lt) (account_below k))

pub holds_ext : {l : List ℤ} {f g : ℕ → ℕ → ℤ} → ((i a : ℕ) → f i a ≡ g i a) → Holds l f → Holds l g
holds_ext e h = record { len = h.len; each = λ i a room lt. h.each i a room lt ∙ e i a }

pub holds_zeros : (f : ℕ → ℕ → ℤ) → ((i a : ℕ) → f i a ≡ pos 0) → Holds (replicate cells (pos 0)) f
holds_zeros f e =
    record { len = length-replicate cells (pos 0); each = λ i a room lt. at_zeros cells (cell i a) ∙ sym (e i a) }

pub by_series_ext : (f g : ℕ → ℕ → ℤ) → ((i a : ℕ) → i < series_room → a < accounts → f i a ≡ g i a) → by_series f ≡ by_series g
by_series_ext f g h = table_ext cells _ _ (λ k lt. h (k / accounts) (k % accounts) (series_below k lt) (account_below k))

pub bounded_by_series : {B : ℕ} (f : ℕ → ℕ → ℤ) → ((i a : ℕ) → i < series_room → a < accounts → Within B (f i a)) → Bounded B (by_series f)
bounded_by_series f h = bounded_table cells _ (λ k lt. h (k / accounts) (k % accounts) (series_below k lt) (account_below k))

pub bounded_holds : {B : ℕ} {l : List ℤ} {f : ℕ → ℕ → ℤ} → Holds l f → ((i a : ℕ) → i < series_room → a < accounts → Within B (f i a)) → Bounded B l
bounded_holds {f = f} h k = rw (is_by_series h) (bounded_by_series f k)

-- ---- a loop over the accounts of one series: those below n are changed, and all else is as it was
pub record RowChanged (i n : ℕ) (m l : List ℤ) (f : ℕ → ℤ → ℤ) : Type 0 where
  pub len : length m ≡ cells
  pub done : (a : ℕ) → a < n → at m (cell i a) ≡ f a (at l (cell i a))
  pub left : (k : ℕ) → ((a : ℕ) → a < n → k ≢ cell i a) → at m k ≡ at l k

pub row_start : (i : ℕ) (l : List ℤ) (f : ℕ → ℤ → ℤ) → length l ≡ cells → RowChanged i 0 l l f
row_start i l f e = record { len = e; done = λ a lt. absurd (none a lt); left = λ k _. refl }
  where
    none : (a : ℕ) → a < 0 → ⊥
    none a lt = omega arith

-- the place that comes next is as it was
pub row_at : {i n : ℕ} {m l : List ℤ} {f : ℕ → ℤ → ℤ} → RowChanged i n m l f → at m (cell i n) ≡ at l (cell i n)
row_at {i} {n} h = h.left (cell i n) (λ a lt e. above a lt e)
  where
    above : (a : ℕ) → a < n → cell i n ≡ cell i a → ⊥
    above a lt e = omega arith

pub row_next : {i n : ℕ} {m l : List ℤ} {f : ℕ → ℤ → ℤ} → RowChanged i n m l f → i < series_room → n < accounts
    → (v : ℤ) → v ≡ f n (at l (cell i n)) → RowChanged i (n + 1) (set m (cell i n) v) l f
row_next {i} {n} {m} {l} {f} h room lt v e =
    record {
      len = length-set m (cell i n) v ∙ h.len;
      done = λ a below. by a below (ℕ_discrete a n);
      left = λ k apart. get_or-set_other m (cell i n) k v (pos 0) (apart n (omega arith)) ∙ h.left k (λ a below. apart a (omega arith));
    }
  where
    other : (a : ℕ) → a ≢ n → cell i a ≢ cell i n
    other a ne q = ne (omega arith)

    by : (a : ℕ) → a < n + 1 → Dec (a ≡ n) → at (set m (cell i n) v) (cell i a) ≡ f a (at l (cell i a))
    by a below (yes q) = rw (q, get_or-set_same m (cell i n) v (pos 0) (rw h.len (cell_below i n room lt))) e
    by a below (no q) = get_or-set_other m (cell i n) (cell i a) v (pos 0) (other a q) ∙ h.done a (omega arith)

pub row_all : {i n : ℕ} {m l : List ℤ} {f : ℕ → ℤ → ℤ} → RowChanged i n m l f → n ≡ accounts → m ≡ in_series i f l
unfolding choose
row_all {i} {n} {m} {l} {f} h e = is_table cells _ m (pos 0) h.len (λ k lt. by k (ℕ_discrete (k / accounts) i))
  where
    here : (k : ℕ) → k / accounts ≡ i → cell i (k % accounts) ≡ k
    here k q = omega (arith, cell_back k)

    elsewhere : (k : ℕ) → k / accounts ≢ i → (a : ℕ) → a < n → k ≢ cell i a
    elsewhere k ne a lt q = ne (ap (λ (x : ℕ). x / accounts) q ∙ cell_series i a (omega arith))

    by : (k : ℕ) → Dec (k / accounts ≡ i) → at m k ≡ choose (eqb (k / accounts) i) (f (k % accounts) (at l k)) (at l k)
    by k (yes q) =
        rw (eq-eqb (k / accounts) i q)
        (rw (here k q) at (h.done (k % accounts) (omega (arith, account_below k))))
    by k (no q) = rw (ne_eqb (k / accounts) i q) (h.left k (elsewhere k q))

-- what is then at each place
pub at_in_series : (i : ℕ) (f : ℕ → ℤ → ℤ) (l : List ℤ) (j a : ℕ) → j < series_room → a < accounts
    → at (in_series i f l) (cell j a) ≡ choose (eqb j i) (f a (at l (cell j a))) (at l (cell j a))
at_in_series i f l j a room lt =
    get_or_table cells _ (cell j a) (pos 0) (cell_below j a room lt)
    ∙ rw (cell_series j a lt, cell_account j a lt) refl
