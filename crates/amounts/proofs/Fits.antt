-- What the code's products and differences ask: each fits, of whichever positions, values and costs within the bounds it is. Which they
-- are is what the contracts say.
use Prim.Native.Nat.{ℕ, ◌+◌, ◌≤◌}
use lib.IntN.{ℤ, pos, ◌-ℤ◌, ◌*ℤ◌}
use mir.Syntax.{w64}
use mir.Val.{SFits, to_z, of_z}
use Rattle.integer.specs.Bounds.{Within}
use Rattle.integer.proofs.Machine.{Reads, param, nat, minus, times, local, fits}
use Rattle.margin.specs.Bounds.{max_value, max_worth, max_gain, max_traded}
use Rattle.terms.specs.Bounds.{max_position}

-- a number of 64 bits, as the machine reads it
abbrev kept : ℤ → ℤ
kept x = to_z w64 (of_z w64 x)

-- a position times the value of a price
abbrev worth : ℤ → ℕ → ℤ
worth n v = kept n *ℤ to_z w64 v

module _ {n : ℤ} {v : ℕ} (h : Within max_position n) (k : v ≤ max_value) where
  abbrev pub worth_read : Reads max_worth (n *ℤ pos v)
  worth_read = times (param w64 h tt) (nat w64 k tt)

  pub worth_fits : SFits w64 (worth n v)
  worth_fits = fits w64 worth_read tt

-- the difference of two such products, and that less what trades cost
module _ {n b : ℤ} {v u : ℕ} (h : Within max_position n) (k : v ≤ max_value) (i : Within max_position b) (j : u ≤ max_value) where
  abbrev pub gain_read : Reads max_gain ((n *ℤ pos v) -ℤ (b *ℤ pos u))
  gain_read = minus (local w64 (worth_read h k) tt) (local w64 (worth_read i j) tt)

  pub gain_fits : SFits w64 (kept (worth n v) -ℤ kept (worth b u))
  gain_fits = fits w64 gain_read tt

  module _ {x : ℤ} (g : Within max_traded x) where
    abbrev pub margin_read : Reads (max_gain + max_traded) (((n *ℤ pos v) -ℤ (b *ℤ pos u)) -ℤ x)
    margin_read = minus (local w64 gain_read tt) (param w64 g tt)

    pub margin_fits : SFits w64 (kept (kept (worth n v) -ℤ kept (worth b u)) -ℤ kept x)
    margin_fits = fits w64 margin_read tt
