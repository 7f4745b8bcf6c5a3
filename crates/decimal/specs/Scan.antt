-- One byte of a code's layout (RULES, "Contract codes").
use Rattle.std.specs.Prelude.{ℕ, ◌+◌, List, length, get_or, ltb, eqb, Option, Some, None}
use Rattle.choice.specs.Choice.{choose}

-- what follows a piece that was read, or the answer where it is broken
unfoldable pub on_scanned : {A : Type 0} → Option ℕ → A → (ℕ → A) → A
on_scanned (Some n) broken next = next n
on_scanned None broken next = broken

-- the byte c stands at a place
unfoldable pub byte_at : List ℕ → ℕ → ℕ → Option ℕ
byte_at s at c = choose (ltb at (length s)) (choose (eqb (get_or s at 0) c) (Some (at + 1)) None) None
