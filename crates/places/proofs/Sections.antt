-- Laws of places, for any number n of sections and any number m of accounts.
use mathlib.Core.Path.{◌≡◌, sym, ap, ◌∙◌}
use Prim.Native.Nat.{ℕ, zero, suc, ◌+◌, ◌*◌, ◌≤◌, ◌<◌}
use native.Mathlib.Nat.{zero-mul, suc-mul, mul-le-mul_right, div-eq_of_lt-le, div-add-mod', div-lt_iff_lt-mul, add-mul, one-mul, mod-lt}
use native.Mathlib.Omega.{arith}
use lib.IntN.{ℤ}
use Rattle.integer.specs.Sum.{sum_to}
use Rattle.integer.proofs.Sum.{sum_to_zero, sum_to_suc, sum_join}
use Rattle.places.specs.Sections.{place_among, account_among, section_among, sum_among}

module _ (n : ℕ) where
  -- an account's sections end where those of the next account start
  sections_end : (a b : ℕ) → a < b → a * n + n ≤ b * n
  sections_end a b lt = omega (arith, suc-mul a n, mul-le-mul_right {m = suc a} {n = b} n (omega arith))

  -- the places of m accounts are the numbers below m × n
  pub among_within : (m a s : ℕ) → a < m → s < n → place_among n a s < m * n
  among_within m a s la ls = omega (arith, sections_end a m la)

  -- the order of places is that of the accounts, and then of the sections: so a tie that goes to the lower place goes to the lower
  -- account, and in one account to the lower section
  pub among_account_order : (a b s t : ℕ) → a < b → s < n → place_among n a s < place_among n b t
  among_account_order a b s t lt ls = omega (arith, sections_end a b lt)

  pub among_section_order : (a s t : ℕ) → s < t → place_among n a s < place_among n a t
  among_section_order a s t lt = omega arith

  -- a place has its account and its section back
  pub account_among_lem : (a s : ℕ) → s < n → account_among n (place_among n a s) ≡ a
  account_among_lem a s ls = div-eq_of_lt-le n (omega arith) (omega (arith, add-mul a 1 n, one-mul n))

  pub section_among_lem : (a s : ℕ) → s < n → section_among n (place_among n a s) ≡ s
  section_among_lem a s ls =
      omega (arith, ap (λ (b : ℕ). b * n) (account_among_lem a s ls), div-add-mod' (place_among n a s) n)

  -- two places are one only where account and section are the same
  pub among_account : (a b s t : ℕ) → s < n → t < n → place_among n a s ≡ place_among n b t → a ≡ b
  among_account a b s t ls lt e = sym (account_among_lem a s ls) ∙ ap (account_among n) e ∙ account_among_lem b t lt

  pub among_section : (a b s t : ℕ) → s < n → t < n → place_among n a s ≡ place_among n b t → s ≡ t
  among_section a b s t ls lt e = sym (section_among_lem a s ls) ∙ ap (section_among n) e ∙ section_among_lem b t lt

  -- every place is some account's: of m accounts, and of a section
  pub among_back : (k : ℕ) → place_among n (account_among n k) (section_among n k) ≡ k
  among_back k = div-add-mod' k n

  pub account_among_within : (m k : ℕ) → 0 < n → k < m * n → account_among n k < m
  account_among_within m k some lt = (div-lt_iff_lt-mul some).1 lt

  pub section_among_within : (k : ℕ) → 0 < n → section_among n k < n
  section_among_within k some = mod-lt k some

  -- a sum over all places, taken account by account
  pub sum_among_lem : (m : ℕ) (f : ℕ → ℤ) → sum_to (m * n) f ≡ sum_to m (sum_among n f)
  sum_among_lem zero f = rw (zero-mul n, sum_to_zero f) (sym (sum_to_zero (sum_among n f)))
  sum_among_lem (suc m) f = rw (suc-mul m n, sum_join (m * n) n f, sum_among_lem m f) (sym (sum_to_suc m (sum_among n f)))
