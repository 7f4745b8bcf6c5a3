-- A table of pairs of digits. A pair is one byte: its upper half says the tens, its lower half the ones.
use Rattle.std.specs.Prelude.{ℕ, ◌/◌, ◌%◌, ◌<◌, ◌≡◌, List, [], ◌∷◌, get_or}
use Rattle.decimal.specs.Text.{digit_byte, pairs, two_digits}

-- the two digits that a pair says
abbrev pub pair_text : ℕ → List ℕ
pair_text pair = digit_byte (pair / 16) ∷ digit_byte (pair % 16) ∷ []

-- the table of the hundred pairs: the pair at place k is the two digits of k
pub record DigitPairs (table : List ℕ) : Type 0 where
  pub each : (k : ℕ) → k < pairs → pair_text (get_or table k 0) ≡ two_digits k
