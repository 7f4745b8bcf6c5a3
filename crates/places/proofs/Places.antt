-- Laws of the places of the book's accounts.
use mathlib.Core.Path.{◌≡◌, refl, sym, ap, ◌∙◌}
use mathlib.Core.Logic.{◌≢◌}
use mathlib.Core.List.{List}
use Prim.Native.Nat.{ℕ, ◌*◌, ◌≤◌, ◌<◌}
use native.Mathlib.Decide.{dec_lt}
use native.Mathlib.Omega.{arith}
use lib.IntN.{ℤ, pos, nat_abs, ◌+ℤ◌}
use lib.ListN.{replicate}
use Rattle.integer.specs.Bounds.{Within}
use Rattle.integer.specs.Sum.{sum_to, sumℕ}
use Rattle.integer.specs.Table.{at, table}
use Rattle.integer.proofs.Bounds.{within_pos}
use Rattle.integer.proofs.Table.{get_or_table, past_table}
use Rattle.integer.proofs.Sum.{sum_ext, sum_add, sum_abs, at_zeros}
use Rattle.integer.proofs.NatSum.{sumℕ_ext, sumℕ_mono, sumℕ_term, sumℕ_none, sum_pos, sum_abs_most}
use Rattle.terms.specs.Bounds.{accounts}
use Rattle.places.specs.Places.{sections, places, place_in, account_of, section_of, of_account, gross, Limited}
use Rattle.places.proofs.Sections.{among_within, among_account, among_section, among_account_order, among_section_order, account_among_lem, among_back, account_among_within, section_among_within, sum_among_lem}

-- ---- where places are
pub place_within : (a s : ℕ) → a < accounts → s < sections → place_in a s < places
unfolding place_in
place_within a s la ls = among_within sections accounts a s la ls

-- another account, or another section of it, has another place
pub same_account : (a b s t : ℕ) → s < sections → t < sections → place_in a s ≡ place_in b t → a ≡ b
unfolding place_in
same_account a b s t ls lt e = among_account sections a b s t ls lt e

pub same_section : (a b s t : ℕ) → s < sections → t < sections → place_in a s ≡ place_in b t → s ≡ t
unfolding place_in
same_section a b s t ls lt e = among_section sections a b s t ls lt e

pub other_account : {a b : ℕ} (s t : ℕ) → s < sections → t < sections → a ≢ b → place_in a s ≢ place_in b t
other_account {a} {b} s t ls lt ne e = ne (same_account a b s t ls lt e)

pub other_section : (a : ℕ) {s t : ℕ} → s < sections → t < sections → s ≢ t → place_in a s ≢ place_in a t
other_section a {s} {t} ls lt ne e = ne (same_section a a s t ls lt e)

-- equal remainders go by account and then section
pub account_order : (a b s t : ℕ) → a < b → s < sections → place_in a s < place_in b t
unfolding place_in
account_order a b s t lt ls = among_account_order sections a b s t lt ls

pub section_order : (a s t : ℕ) → s < t → place_in a s < place_in a t
unfolding place_in
section_order a s t lt = among_section_order sections a s t lt

-- every place is some account's
pub account_of_place : (a s : ℕ) → s < sections → account_of (place_in a s) ≡ a
unfolding account_of place_in
account_of_place a s ls = account_among_lem sections a s ls

pub place_back : (k : ℕ) → place_in (account_of k) (section_of k) ≡ k
unfolding place_in account_of section_of
place_back k = among_back sections k

pub account_of_within : {k : ℕ} → k < places → account_of k < accounts
unfolding account_of
account_of_within {k} lt = account_among_within sections accounts k (omega arith) lt

pub section_of_within : (k : ℕ) → section_of k < sections
unfolding section_of
section_of_within k = section_among_within sections k (omega arith)

-- ---- an account's sum over its places
-- section by section, as a loop has it
pub of_account_sum : (f : ℕ → ℤ) (a : ℕ) → of_account f a ≡ sum_to sections (λ s. f (place_in a s))
unfolding of_account place_in
of_account_sum f a = refl

-- the sum over all places, taken account by account
pub sum_by_account : (f : ℕ → ℤ) → sum_to accounts (of_account f) ≡ sum_to places f
unfolding of_account
sum_by_account f = sym (sum_among_lem sections accounts f)

pub of_account_ext : (f g : ℕ → ℤ) → ((k : ℕ) → k < places → f k ≡ g k) → (a : ℕ) → a < accounts → of_account f a ≡ of_account g a
unfolding of_account
of_account_ext f g h a la = sum_ext sections _ _ (λ s ls. h _ (among_within sections accounts a s la ls))

-- of an array that is a table
pub of_account_table : (f : ℕ → ℤ) (a : ℕ) → a < accounts → of_account (at (table places f)) a ≡ of_account f a
of_account_table f a la = of_account_ext (at (table places f)) f (λ k lt. get_or_table places f k (pos 0) lt) a la

pub of_account_add : (f g : ℕ → ℤ) (a : ℕ) → of_account (λ k. f k +ℤ g k) a ≡ of_account f a +ℤ of_account g a
unfolding of_account
of_account_add f g a = sum_add sections _ _

pub of_account_within : {B : ℕ} (f : ℕ → ℤ) → ((k : ℕ) → Within B (f k)) → (a : ℕ) → Within (sections * B) (of_account f a)
unfolding of_account
of_account_within {B} f h a = record { abs = sum_abs sections B _ (λ s ls. (h _).abs) }

-- ---- an account's sum without signs
-- section by section, as a loop has it
pub gross_sum : (f : ℕ → ℤ) (a : ℕ) → gross f a ≡ sumℕ sections (λ s. nat_abs (f (place_in a s)))
unfolding gross place_in
gross_sum f a = refl

-- it is made of the account's places alone
pub gross_ext : (f g : ℕ → ℤ) (a : ℕ) → ((s : ℕ) → s < sections → f (place_in a s) ≡ g (place_in a s)) → gross f a ≡ gross g a
unfolding gross place_in
gross_ext f g a h = sumℕ_ext sections _ _ (λ s ls. ap nat_abs (h s ls))

pub gross_mono : (f g : ℕ → ℤ) (a : ℕ) → ((s : ℕ) → s < sections → nat_abs (f (place_in a s)) ≤ nat_abs (g (place_in a s))) → gross f a ≤ gross g a
unfolding gross place_in
gross_mono f g a h = sumℕ_mono sections _ _ h

-- one section is no more than all, and neither is the sum with signs
pub gross_section : (f : ℕ → ℤ) (a s : ℕ) → s < sections → nat_abs (f (place_in a s)) ≤ gross f a
unfolding gross place_in
gross_section f a s ls = sumℕ_term sections (λ t. nat_abs (f (place_in a t))) s ls

pub gross_of_account : (f : ℕ → ℤ) (a : ℕ) → nat_abs (of_account f a) ≤ gross f a
unfolding gross of_account
gross_of_account f a = sum_abs_most sections _

-- all places without sign, account by account
pub gross_in_all : (f : ℕ → ℤ) → sumℕ places (λ k. nat_abs (f k)) ≡ sumℕ accounts (gross f)
gross_in_all f =
    let g : ℕ → ℤ = λ k. pos (nat_abs (f k)) in
    ap nat_abs
    (sym (sum_pos places (λ k. nat_abs (f k)))
    ∙ sym (sum_by_account g)
    ∙ sum_ext accounts (of_account g) (λ a. pos (gross f a)) (λ a _. of_account_sum g a ∙ sum_pos sections (λ s. nat_abs (f (place_in a s))) ∙ ap pos (sym (gross_sum f a)))
    ∙ sum_pos accounts (gross f))

-- ---- arrays in which no account passes a limit
pub limited_zeros : (B : ℕ) → Limited B (replicate places (pos 0))
limited_zeros B =
    record {
      each = λ a.
          let none : gross (at (replicate places (pos 0))) a ≡ 0 = gross_sum _ a ∙ sumℕ_none sections _ (λ s ls. ap nat_abs (at_zeros places (place_in a s))) in
          omega (arith, none);
    }

-- amounts with no more at any place than such an array
module _ {B : ℕ} {l : List ℤ} (f : ℕ → ℤ) (h : (k : ℕ) → Within (nat_abs (at l k)) (f k)) (g : Limited B l) where
  pub limited_of_account : (a : ℕ) → Within B (of_account f a)
  limited_of_account a =
      record { abs = omega (arith, gross_of_account f a, gross_mono f (at l) a (λ s ls. (h (place_in a s)).abs), g.each a) }

  in_table : (k : ℕ) → Within (nat_abs (at l k)) (at (table places f) k)
  in_table k = by (dec_lt k places)
    where
      by : Dec (k < places) → Within (nat_abs (at l k)) (at (table places f) k)
      by (yes lt) = rw (get_or_table places f k (pos 0) lt) (h k)
      by (no ge) = rw (past_table places f k ge) (within_pos (omega arith))

  pub limited_table : Limited B (table places f)
  limited_table =
      record {
        each = λ a. omega (arith, gross_mono (at (table places f)) (at l) a (λ s ls. (in_table (place_in a s)).abs), g.each a);
      }
