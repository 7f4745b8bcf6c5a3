-- A row of a code that is read, and of its numbers, is read as the listing that it says.
use Prim.Native.Nat.{ℕ, ◌+◌, ◌≤◌}
use mathlib.Core.Path.{◌≡◌, refl}
use mathlib.Core.List.{List, [], ◌∷◌}
use mathlib.Core.Logic.{inl, inr}
use native.Mathlib.Omega.{arith}
use lib.ListN.{length, length-append}
use Rattle.std.specs.Prelude.{Ok}
use Rattle.decimal.specs.Text.{decimal}
use Rattle.decimal.proofs.Each.{Each}
use Rattle.contract.specs.Code.{read_code}
use Rattle.contract.specs.Promises.{capital, digit, hyphen, point}
use Rattle.contract.specs.declared.types.Date.{Date}
use Rattle.contract.specs.declared.types.Terms.{Terms}
use Rattle.contract.proofs.Bytes.{ByteOfCode, code_bytes}
use Rattle.contract.proofs.Promises.{read_is, code_read_at_most}
use Rattle.rows.specs.Cut.{max_row}
use Rattle.rows.specs.Row.{listing, dated_listing, row_of}
use Rattle.rows.specs.Grammar.{fields_text, EachShort, Plain, list_text, dated_text, list, dated}
use Rattle.rows.proofs.RowTexts.{row_read}
use Rattle.contract.specs.Code.{coded}

-- ---- a code stands in a row as it is: no byte of it is a comma or a double quote
no_comma : (b : ℕ) → ByteOfCode b → b ≡ 44 → ⊥
no_comma b (inl (capital h g)) e = omega arith
no_comma b (inl (digit h g)) e = omega arith
no_comma b (inl (hyphen h)) e = omega arith
no_comma b (inl (point h)) e = omega arith
no_comma b (inr h) e = omega arith

no_quote : (b : ℕ) → ByteOfCode b → b ≡ 34 → ⊥
no_quote b (inl (capital h g)) e = omega arith
no_quote b (inl (digit h g)) e = omega arith
no_quote b (inl (hyphen h)) e = omega arith
no_quote b (inl (point h)) e = omega arith
no_quote b (inr h) e = omega arith

plain : (l : List ℕ) → Each ByteOfCode l → Plain l
plain [] u = tt
plain (b ∷ bs) u = ((no_comma b u.0, no_quote b u.0), plain bs u.1)

-- ---- a row of it and its numbers is short enough, and is read
fields_length : (v : ℕ) (vs : List ℕ) → length (fields_text (v ∷ vs)) ≡ 1 + length (decimal v) + length (fields_text vs)
unfolding fields_text
fields_length v vs = omega (arith, length-append (decimal v) (fields_text vs))

no_fields : length (fields_text []) ≡ 0
unfolding fields_text
no_fields = refl

module _ (calendar : List Date) (code : List ℕ) (n : ℕ) (t : Terms) (e : read_code code ≡ Ok (coded n t)) (tick : ℕ) where
  pub list_read : (last : ℕ) → EachShort (tick ∷ last ∷ []) → row_of calendar (list_text code tick last) ≡ listing code tick last
  list_read last short =
      let room : length (list_text code tick last) ≤ max_row =
      omega (
        arith,
        length-append code (fields_text (tick ∷ last ∷ [])),
        fields_length tick (last ∷ []),
        fields_length last [],
        no_fields,
        code_read_at_most code n t e,
        short.0.digits,
        short.1.0.digits,
      )
      in
      row_read calendar (list_text code tick last) (listing code tick last) room
      (list code tick last (plain code (code_bytes code _ t (read_is code n t e).says)) short refl)

  pub dated_read : EachShort (tick ∷ []) → row_of calendar (dated_text code tick) ≡ dated_listing calendar code tick
  dated_read short =
      let room : length (dated_text code tick) ≤ max_row =
      omega (
        arith,
        length-append code (fields_text (tick ∷ [])),
        fields_length tick [],
        no_fields,
        code_read_at_most code n t e,
        short.0.digits,
      )
      in
      row_read calendar (dated_text code tick) (dated_listing calendar code tick) room
      (dated code tick (plain code (code_bytes code _ t (read_is code n t e).says)) short refl)
