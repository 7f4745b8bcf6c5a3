-- An integer as what is long and what is short.
use Rattle.std.specs.Prelude.{ℕ, suc, ℤ, pos, negsuc}

-- the parts of an integer: part⁺ z is z where z is not negative, else 0, and part⁻ z is −z where z is negative
abbrev pub part⁺ : ℤ → ℕ
part⁺ (pos n) = n
part⁺ (negsuc n) = 0

abbrev pub part⁻ : ℤ → ℕ
part⁻ (pos n) = 0
part⁻ (negsuc n) = suc n
