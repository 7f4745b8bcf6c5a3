-- The loops that give the contracts left over: the search for the largest remainder, and the places served so far.
-- Assumes nothing.
use borrow.Author.Tests.{ltb-true, ltb-false, lt-ltb, le-ltb}
use borrow.Author.Count.{below_more}
use mathlib.Core.Bool.{Bool, true, false, true≢false}
use mathlib.Core.List.{List}
use mathlib.Core.Logic.{⊎_elim, ◌≢◌}
use mathlib.Core.Path.{◌≡◌, refl, sym, ap, ap₂, ◌∙◌}
use Prim.Native.Nat.{ℕ, ◌+◌, ◌-◌, ◌≤◌, ◌<◌}
use native.Mathlib.Nat.{le_antisymm}
use native.Mathlib.Decide.{ℕ_discrete, dec_lt}
use native.Mathlib.Omega.{arith}
use lib.Dec.{ltb}
use lib.ListN.{length, set, length-set}
use lib.Seq.{get_or-set_same, get_or-set_other}
use Rattle.integer.specs.Sum.{sumℕ, bit, count}
use Rattle.integer.proofs.NatSum.{sumℕ_ext}
use Rattle.integer.proofs.Count.{count_mono}
use Rattle.integer.specs.Table.{table}
use Rattle.integer.proofs.Table.{length_table, get_or_table, is_table}
use Rattle.places.specs.Places.{amount}
use Rattle.exercise.specs.Assignment.{whole_part, remainder, left_over, ahead, rank, assigned}
use Rattle.exercise.proofs.Ranks.{is_false, is_true, larger, is_ahead, ahead_irrefl, ahead_trans, ahead_ext, rank_distinct, rank_count, rank_ext, test_past}
use Rattle.exercise.proofs.Assigning.{whole_parts_most, left_few}

-- ---- the search

-- of the places below i, m has the largest number, and is the lowest of several
pub record Largest (i : ℕ) (r : ℕ → ℕ) (m : ℕ) : Type 0 where
  pub below : m < i
  pub first : (k : ℕ) → k < i → ahead r k m ≡ false

pub largest_start : (r : ℕ → ℕ) → Largest 1 r 0
largest_start r = record { below = omega arith; first = λ k lt. let e : k ≡ 0 = omega arith in rw e (ahead_irrefl r 0) }

-- one place more is looked at
module _ (i : ℕ) (r : ℕ → ℕ) (m : ℕ) (L : Largest i r m) where
  pub largest_new : r m < r i → Largest (i + 1) r i
  largest_new h = record {
    below = omega arith;
    first = below_more (λ k. ahead r k i ≡ false) i
        (λ k l. is_false (ahead r k i) (λ t. true≢false (sym (ahead_trans r k i m t (larger r i m h)) ∙ L.first k l)))
        (ahead_irrefl r i);
  }

  pub largest_kept : r i ≤ r m → Largest (i + 1) r m
  largest_kept h = record {
    below = omega (arith, L.below);
    first = below_more (λ k. ahead r k m ≡ false) i L.first
        (is_false (ahead r i m) (λ t. ⊎_elim (λ u. omega arith) (λ u. omega (arith, L.below)) (is_ahead r i m t)));
  }

-- ---- the places served

-- of n places with remainders r and whole parts s, those of the t first ranks have one contract more, and their remainders
-- are out of the search
pub record Served (n : ℕ) (r s : ℕ → ℕ) (out rest : List ℕ) (t : ℕ) : Type 0 where
  pub out_length : length out ≡ n
  pub rest_length : length rest ≡ n
  pub gets : (k : ℕ) → k < n → amount out k ≡ s k + bit (ltb (rank n r k) t)
  pub gone : (k : ℕ) → k < n → rank n r k < t → amount rest k ≡ 0
  pub stays : (k : ℕ) → k < n → t ≤ rank n r k → amount rest k ≡ r k

pub served_none : (n : ℕ) (out rest : List ℕ) → length out ≡ n → length rest ≡ n → Served n (amount rest) (amount out) out rest 0
served_none n out rest p q = record {
  out_length = p;
  rest_length = q;
  gets = λ k l. rw (le-ltb (rank n (amount rest) k) 0 (omega arith)) (omega arith);
  gone = λ k l h. omega arith;
  stays = λ k l h. refl;
}

module _ (n : ℕ) (r s : ℕ → ℕ) (out rest : List ℕ) (t m : ℕ) (S : Served n r s out rest t) where
  -- the largest remainder that is left has the rank t, where fewer than the places with a remainder are served
  pub next_served : t < count n (λ k. ltb 0 (r k)) → t ≤ n → Largest n (amount rest) m → rank n r m ≡ t
  unfolding rank
  next_served some few L = le_antisymm most least
    where
      no_larger : (k : ℕ) → k < n → amount rest k ≤ amount rest m
      no_larger k l = by (dec_lt (amount rest m) (amount rest k))
        where
          by : Dec (amount rest m < amount rest k) → amount rest k ≤ amount rest m
          by (yes h) = absurd (true≢false (sym (larger (amount rest) k m h) ∙ L.first k l))
          by (no h) = omega arith

      -- were it served, so were every place with a remainder
      served : rank n r m < t → (k : ℕ) → k < n → ltb 0 (r k) ≡ true → ltb (rank n r k) t ≡ true
      served h k l p = by (dec_lt (rank n r k) t)
        where
          by : Dec (rank n r k < t) → ltb (rank n r k) t ≡ true
          by (yes b) = lt-ltb (rank n r k) t b
          by (no b) = absurd (omega (arith, ltb-true 0 (r k) p, S.stays k l (omega arith), S.gone m L.below h, no_larger k l))

      least : t ≤ rank n r m
      least = by (dec_lt (rank n r m) t)
        where
          by : Dec (rank n r m < t) → t ≤ rank n r m
          by (yes h) =
              omega (arith, rank_count n r t few, count_mono n (λ k. ltb 0 (r k)) (λ k. ltb (rank n r k) t) (served h))
          by (no h) = omega arith

      most : rank n r m ≤ t
      most =
          omega (
            arith,
            rank_count n r t few,
            count_mono n (λ j. ahead r j m) (λ j. ltb (rank n r j) t)
                (λ j l h. is_true (ltb (rank n r j) t) (λ f. true≢false (sym h ∙ sym (ahead_ext (amount rest) r j m (S.stays j l (ltb-false (rank n r j) t f)) (S.stays m L.below least)) ∙ L.first j l))),
          )

  -- one more is served
  pub served_more : m < n → rank n r m ≡ t → Served n r s (set out m (amount out m + 1)) (set rest m 0) (t + 1)
  served_more b e = record {
    out_length = length-set out m (amount out m + 1) ∙ S.out_length;
    rest_length = length-set rest m 0 ∙ S.rest_length;
    gets = λ k l. gets_by k l (ℕ_discrete k m);
    gone = λ k l h. gone_by k l h (ℕ_discrete k m);
    stays = λ k l h. get_or-set_other rest m k 0 0 (apart k h) ∙ S.stays k l (omega arith);
  }
    where
      now : ltb (rank n r m) (t + 1) ≡ true
      now = lt-ltb (rank n r m) (t + 1) (omega arith)

      not_yet : ltb (rank n r m) t ≡ false
      not_yet = le-ltb (rank n r m) t (omega arith)

      apart : (k : ℕ) → t + 1 ≤ rank n r k → k ≢ m
      apart k h q = omega (arith, ap (rank n r) q)

      -- no other place has the rank t
      other : (k : ℕ) → k < n → k ≢ m → rank n r k ≢ t
      other k l ne q = ne (rank_distinct n r k m l b (q ∙ sym e))

      gets_by : (k : ℕ) → k < n → Dec (k ≡ m) → amount (set out m (amount out m + 1)) k ≡ s k + bit (ltb (rank n r k) (t + 1))
      gets_by k l (yes q) =
          rw q
          (get_or-set_same out m (amount out m + 1) 0 (omega (arith, S.out_length))
          ∙ omega (arith, S.gets m b, ap bit now, ap bit not_yet))
      gets_by k l (no ne) =
          get_or-set_other out m k (amount out m + 1) 0 ne ∙ S.gets k l
          ∙ ap (λ (x : Bool). s k + bit x) (sym (test_past (rank n r k) t (other k l ne)))

      gone_by : (k : ℕ) → k < n → rank n r k < t + 1 → Dec (k ≡ m) → amount (set rest m 0) k ≡ 0
      gone_by k l h (yes q) = rw q (get_or-set_same rest m 0 0 (omega (arith, S.rest_length)))
      gone_by k l h (no ne) = get_or-set_other rest m k 0 0 ne ∙ S.gone k l (omega (arith, other k l ne))

-- ---- before and after the loop

-- the contracts are exercised, and the shares worked out
module _ (n e : ℕ) (w : ℕ → ℕ) (out rest : List ℕ) (some : 0 < e) (enough : e ≤ sumℕ n w)
    (out-is : out ≡ table n (whole_part e (sumℕ n w) w)) (rest-is : rest ≡ table n (remainder e (sumℕ n w) w)) where
  out_at : (k : ℕ) → k < n → amount out k ≡ whole_part e (sumℕ n w) w k
  out_at k l = ap (λ (x : List ℕ). amount x k) out-is ∙ get_or_table n (whole_part e (sumℕ n w) w) k 0 l

  rest_at : (k : ℕ) → k < n → amount rest k ≡ remainder e (sumℕ n w) w k
  rest_at k l = ap (λ (x : List ℕ). amount x k) rest-is ∙ get_or_table n (remainder e (sumℕ n w) w) k 0 l

  pub served_start : Served n (amount rest) (amount out) out rest 0
  served_start =
      served_none n out rest (ap length out-is ∙ length_table n (whole_part e (sumℕ n w) w)) (ap length rest-is ∙ length_table n (remainder e (sumℕ n w) w))

  whole_in_all : sumℕ n (amount out) ≡ sumℕ n (whole_part e (sumℕ n w) w)
  whole_in_all = sumℕ_ext n (amount out) (whole_part e (sumℕ n w) w) out_at

  pub whole_most : sumℕ n (amount out) ≤ e
  whole_most = omega (arith, whole_in_all, whole_parts_most n e w some enough)

  pub left_is : e - sumℕ n (amount out) ≡ left_over n e w
  left_is = ap (λ (x : ℕ). e - x) whole_in_all

  pub left_remainders : e - sumℕ n (amount out) ≤ count n (λ k. ltb 0 (amount rest k))
  left_remainders =
      omega (
        arith,
        left_is,
        left_few n e w some enough,
        sumℕ_ext n (λ k. bit (ltb 0 (amount rest k))) (λ k. bit (ltb 0 (remainder e (sumℕ n w) w k))) (λ k l. ap (λ (x : ℕ). bit (ltb 0 x)) (rest_at k l)),
      )

  pub all_served : (out' rest' : List ℕ) → Served n (amount rest) (amount out) out' rest' (e - sumℕ n (amount out)) → out' ≡ table n (assigned n e w)
  unfolding assigned
  all_served out' rest' S =
      is_table n (assigned n e w) out' 0 S.out_length
      (λ k l. S.gets k l ∙ ap₂ (λ (x : ℕ) (t : Bool). x + bit t) (out_at k l)
      (ap₂ ltb (rank_ext n (amount rest) (remainder e (sumℕ n w) w) rest_at k l) left_is))
