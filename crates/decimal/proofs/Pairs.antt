-- The table of the hundred pairs: one test of the whole table, and the law that makes it the rule at each place.
use Prim.Native.Nat.{ℕ, zero, suc, ◌+◌, ◌/◌, ◌%◌, ◌<◌}
use mathlib.Core.Path.{◌≡◌, refl, ap, ◌∙◌}
use mathlib.Core.Bool.{Bool, true, false, ◌&&◌, false≢true}
use mathlib.Core.List.{List, [], ◌∷◌}
use native.Mathlib.Nat.{add-zero, zero-add}
use native.Mathlib.Omega.{arith}
use lib.Dec.{eqb}
use lib.ListN.{get_or}
use borrow.Author.Tests.{eqb-true}
use Rattle.decimal.specs.Text.{digit_byte, pairs, two_digits}
use Rattle.decimal.specs.Pairs.{pair_text, DigitPairs}
use Rattle.decimal.specs.Put.{Put}
use Rattle.decimal.proofs.Putting.{then_byte}

-- The test, transparent, so that the checker computes it where the table is: the first n pairs are the digits of their places,
-- which are counted from k.
abbrev digit_pairs_from : ℕ → ℕ → List ℕ → Bool
digit_pairs_from zero k table = true
digit_pairs_from (suc n) k [] = false
digit_pairs_from (suc n) k (pair ∷ table) = eqb (pair / 16) (k / 10) && (eqb (pair % 16) (k % 10) && digit_pairs_from n (suc k) table)

-- all the hundred are
abbrev pub is_digit_pairs : List ℕ → Bool
is_digit_pairs table = digit_pairs_from pairs 0 table

both : (a b : Bool) → (a && b) ≡ true → (a ≡ true) × (b ≡ true)
both true b e = (refl, e)
both false b e = absurd (false≢true e)

-- the first pair is right, and so are those after it
first : (n k pair : ℕ) (table : List ℕ) →
    digit_pairs_from (suc n) k (pair ∷ table) ≡ true →
    (pair_text pair ≡ two_digits k) × (digit_pairs_from n (suc k) table ≡ true)
first n k pair table r =
    let tens = both (eqb (pair / 16) (k / 10)) _ r in
    let ones = both (eqb (pair % 16) (k % 10)) _ tens.1 in
    (rw (← eqb-true (pair / 16) _ tens.0, ← eqb-true (pair % 16) _ ones.0), ones.1)

at_place : (n k : ℕ) (table : List ℕ) → digit_pairs_from n k table ≡ true → (i : ℕ) → i < n → pair_text (get_or table i 0) ≡ two_digits (k + i)
at_place zero k table r i h = absurd (omega arith)
at_place (suc n) k [] r i h = absurd (false≢true r)
at_place (suc n) k (pair ∷ table) r zero h = rw add-zero (first n k pair table r).0
at_place (suc n) k (pair ∷ table) r (suc i) h =
    let one_on : suc k + i ≡ k + suc i = omega arith in
    rw (← one_on) (at_place n (suc k) table (first n k pair table r).1 i (omega arith))

-- a table that passes the test is that of the hundred pairs
pub hundred_pairs : (table : List ℕ) → is_digit_pairs table ≡ true → DigitPairs table
hundred_pairs table r = record { each = λ k h. at_place pairs 0 table r k h ∙ rw zero-add }

-- both halves of a pair are digits, whichever is written first
pub halves : (table : List ℕ) (k : ℕ) → DigitPairs table → k < pairs → (get_or table k 0 / 16 < 10) × (get_or table k 0 % 16 < 10)
halves table k d h =
    let tens : digit_byte (get_or table k 0 / 16) ≡ digit_byte (k / 10) = ap (λ (l : List ℕ). get_or l 0 0) (d.each k h) in
    let ones : digit_byte (get_or table k 0 % 16) ≡ digit_byte (k % 10) = ap (λ (l : List ℕ). get_or l 1 0) (d.each k h) in
    (omega arith, omega arith)

-- the pair at place k, put half by half, is the two digits of k
pub both_halves : (l m n table : List ℕ) (at p q k : ℕ) →
    DigitPairs table →
    k < pairs →
    Put l at (digit_byte (get_or table k 0 / 16) ∷ []) m p →
    Put m p (digit_byte (get_or table k 0 % 16) ∷ []) n q →
    Put l at (two_digits k) n q
both_halves l m n table at p q k d h a b = rw (← d.each k h) (then_byte l m n at p q _ _ a b)
