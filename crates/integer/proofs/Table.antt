-- Laws of tables, and the invariant of a loop that changes an array.
use mathlib.Core.Path.{◌≡◌, refl, sym, ap, ◌∙◌, subst}
use mathlib.Core.List.{List, [], ◌∷◌}
use Prim.Native.Nat.{ℕ, zero, suc, ◌+◌, ◌<◌, ◌≤◌}
use native.Mathlib.Nat.{le_of_suc-le-suc, not-suc-le-zero}
use native.Mathlib.Decide.{ℕ_discrete, dec_lt}
use native.Mathlib.Omega.{arith}
use lib.ListN.{length, get_or, set, replicate, length-set, length-replicate, get_or-replicate, get_or-eq_default}
use lib.Seq.{ext_get_or, get_or-set_same, get_or-set_other}
use denote.Param.Members.{Mut, Called}
use Rattle.std.specs.Array.{IsFromFnResultFrom, IsFromFnResult}
use Rattle.std.specs.Array.{index_steps}
use Rattle.std.specs.Iterator.{CallableAtEachTurn}
use Rattle.std.specs.List.{FoldsTo}
use Rattle.integer.specs.Table.{table}

pub not_below : (a b : ℕ) → ¬ (a < b) → b ≤ a
not_below a b h = omega arith

module _ {A : Type 0} where
  pub length_table : (n : ℕ) (f : ℕ → A) → length (table n f) ≡ n
  unfolding table
  length_table zero f = refl
  length_table (suc n) f = ap suc (length_table n (λ k. f (suc k)))

  pub get_or_table : (n : ℕ) (f : ℕ → A) (k : ℕ) (d : A) → k < n → get_or (table n f) k d ≡ f k
  unfolding table
  get_or_table zero f k d h = absurd (not-suc-le-zero h)
  get_or_table (suc n) f zero d h = refl
  get_or_table (suc n) f (suc k) d h = get_or_table n (λ k. f (suc k)) k d (le_of_suc-le-suc h)

  pub past_table : (n : ℕ) (f : ℕ → A) (k : ℕ) {d : A} → ¬ (k < n) → get_or (table n f) k d ≡ d
  past_table n f k {d} h = get_or-eq_default (table n f) d {n = k} (rw (length_table n f) (not_below k n h))

  -- a list is a table by its elements
  pub is_table : (n : ℕ) (f : ℕ → A) (l : List A) (d : A) → length l ≡ n → ((k : ℕ) → k < n → get_or l k d ≡ f k) → l ≡ table n f
  is_table n f l d e h =
      ext_get_or d l (table n f) (e ∙ sym (length_table n f))
      (λ k lt. h k (omega arith) ∙ sym (get_or_table n f k d (omega arith)))

  pub table_ext : (n : ℕ) (f g : ℕ → A) → ((k : ℕ) → k < n → f k ≡ g k) → table n f ≡ table n g
  table_ext n f g h = is_table n g (table n f) (g 0) (length_table n f) (λ k lt. get_or_table n f k (g 0) lt ∙ h k lt)

  -- a table of one value
  pub replicate_table : (n : ℕ) (x : A) → replicate n x ≡ table n (λ k. x)
  replicate_table n x = is_table n (λ k. x) (replicate n x) x (length-replicate n x) (λ k lt. get_or-replicate n k x x lt)

  -- ---- a loop that changes an array in place: its first i places are as f says, and the others as they were in m
  pub record Updated (n i : ℕ) (l m : List A) (d : A) (f : ℕ → A) : Type 0 where
    pub len : length l ≡ n
    pub done : (k : ℕ) → k < i → get_or l k d ≡ f k
    pub left : (k : ℕ) → i ≤ k → get_or l k d ≡ get_or m k d

  pub updated_start : {n : ℕ} (l : List A) (d : A) (f : ℕ → A) → length l ≡ n → Updated n 0 l l d f
  updated_start l d f e = record { len = e; done = λ k lt. absurd (none k lt); left = λ k le. refl }
    where
      none : (k : ℕ) → k < 0 → ⊥
      none k lt = omega arith

  pub updated_next : {n i : ℕ} {l m : List A} {d : A} {f : ℕ → A} → Updated n i l m d f → i < n → (v : A) → v ≡ f i → Updated n (i + 1) (set l i v) m d f
  updated_next {n} {i} {l} {m} {d} {f} h lt v e =
      record { len = length-set l i v ∙ h.len; done = λ k below. by k below (ℕ_discrete k i); left = λ k le. get_or-set_other l i k v d (λ q. not k le q) ∙ h.left k (omega arith) }
    where
      by : (k : ℕ) → k < i + 1 → Dec (k ≡ i) → get_or (set l i v) k d ≡ f k
      by k below (yes q) = rw (q, get_or-set_same l i v d (omega (arith, h.len))) e
      by k below (no q) = get_or-set_other l i k v d q ∙ h.done k (omega arith)

      not : (k : ℕ) → i + 1 ≤ k → k ≡ i → ⊥
      not k le q = omega arith

  -- a place that f leaves as it was may be passed over
  pub updated_skip : {n i : ℕ} {l m : List A} {d : A} {f : ℕ → A} → Updated n i l m d f → get_or m i d ≡ f i → Updated n (i + 1) l m d f
  updated_skip {n} {i} {l} {m} {d} {f} h e =
      record { len = h.len; done = λ k below. by k below (ℕ_discrete k i); left = λ k le. h.left k (omega arith) }
    where
      by : (k : ℕ) → k < i + 1 → Dec (k ≡ i) → get_or l k d ≡ f k
      by k below (yes q) = rw q (h.left i (omega arith) ∙ e)
      by k below (no q) = h.done k (omega arith)

  -- the loop may stop at i where f leaves the rest as it was
  pub updated_rest : {n i : ℕ} {l m : List A} {d : A} {f : ℕ → A} → Updated n i l m d f
      → ((k : ℕ) → i ≤ k → k < n → get_or m k d ≡ f k) → l ≡ table n f
  updated_rest {n} {i} {l} {m} {d} {f} h rest = is_table n f l d h.len (λ k lt. by k lt (dec_lt k i))
    where
      past : (k : ℕ) → ¬ (k < i) → i ≤ k
      past k h = omega arith

      by : (k : ℕ) → k < n → Dec (k < i) → get_or l k d ≡ f k
      by k lt (yes below) = h.done k below
      by k lt (no above) = h.left k (past k above) ∙ rest k (past k above) lt

  -- ---- an array made by calls of a closure that each give f at their index, and leave the closure as it was
  module _ {F : Type 0} (g : Mut F (ℕ × Unit {0}) A) (c : F) (f : ℕ → A) (n : ℕ) (call : (i : ℕ) (x : A) (d : F) → i < n → Called g c (i, tt) x d → (x ≡ f i) × (d ≡ c)) where
    made_from : (l : List A) (m i : ℕ) (d : F) → i + m ≡ n → d ≡ c → IsFromFnResultFrom g d l i m → (k : ℕ) (e : A) → i ≤ k → k < n → get_or l k e ≡ f k
    made_from l zero i d s same t k e le lt = absurd (none lt)
      where
        none : k < n → ⊥
        none lt = omega arith
    made_from l (suc m) i d s same (q, x, is, called, rest) k e le lt =
        by (ℕ_discrete k i) (call i x q (omega arith) (subst (λ (p : F). Called g p (i, tt) x q) same called))
        (λ b past. made_from l m (i + 1) q (omega arith) b rest k e past lt)
      where
        by : Dec (k ≡ i) → (x ≡ f i) × (q ≡ c) → (q ≡ c → i + 1 ≤ k → get_or l k e ≡ f k) → get_or l k e ≡ f k
        by (yes w) b next = rw w (is.1 e ∙ b.0)
        by (no w) b next = next b.1 (omega arith)

    pub made_table : (l : List A) → IsFromFnResult g c l n → l ≡ table n f
    made_table l r = is_table n f l (f 0) r.long (λ k lt. made_from l n 0 c (omega arith) refl r.each k (f 0) (omega arith) lt)

-- such a closure may be called at each index below n, where calls leave it as it was
stayed : {F : Type 0} (R : F → ℕ → F → Type 0) (c : F) → ((i : ℕ) (d : F) → R c i d → d ≡ c) → (is : List ℕ) (d e : F) → d ≡ c → FoldsTo R d is e → e ≡ c
stayed R c stays [] d e w h = sym h ∙ w
stayed {F} R c stays (i ∷ is) d e w h = stayed R c stays is h.0 e (stays i h.0 (subst (λ (p : F). R p i h.0) w h.1)) h.2

pub may_be_called : {F : Type 0} {R : F → ℕ → F → Type 0} {Q : F → ℕ → Type 0} {c : F} (n : ℕ) → ((i : ℕ) (d : F) → R c i d → d ≡ c) → ((i : ℕ) → i < n → Q c i)
    → CallableAtEachTurn (index_steps n) R Q 0 c
may_be_called {F} {R} {Q} {c} n stays may = record { at = λ is t d i u y h s. subst (λ (p : F). Q p i) (sym (stayed R c stays is c d refl h)) (may i (omega (arith, s))) }
