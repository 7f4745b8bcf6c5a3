-- A listing by a code with the blank before its strike (RULES, "Contract codes" and "Rows").
use Prim.Native.Nat.{ℕ}
use mathlib.Core.Path.{◌≡◌, sym, ◌∙◌}
use mathlib.Core.List.{List, [], ◌∷◌, ◌++◌}
use Rattle.std.specs.Prelude.{Ok}
use Rattle.contract.specs.Code.{read_code}
use Rattle.contract.specs.Promises.{in_style}
use Rattle.contract.specs.declared.types.Date.{Date}
use Rattle.contract.specs.declared.types.Style.TheVariants.{NoBlank}
use Rattle.contract.specs.declared.types.Terms.{Terms}
use Rattle.contract.proofs.Blank.{blank_taken_out}
use Rattle.rows.specs.Row.{on_code, listing, dated_listing, row_of}
use Rattle.rows.specs.Grammar.{EachShort, list_text, dated_text}
use Rattle.rows.proofs.Listings.{list_read, dated_read}
use Rattle.contract.specs.Code.{coded}

-- A row whose code has the blank lists as the row without the blank does,
pub listed_in_both_styles : (calendar : List Date) (x y : List ℕ) (n : ℕ) (t : Terms) (tick last : ℕ) →
    EachShort (tick ∷ last ∷ []) →
    read_code (x ++ 32 ∷ y) ≡ Ok (coded n t) →
    row_of calendar (list_text (x ++ 32 ∷ y) tick last) ≡ row_of calendar (list_text (x ++ y) tick last)
unfolding listing on_code
listed_in_both_styles calendar x y n t tick last short e =
    let without = (blank_taken_out x y n t e).1.0 in
    let same : listing (x ++ 32 ∷ y) tick last ≡ listing (x ++ y) tick last = rw (e, without) in
    list_read calendar (x ++ 32 ∷ y) n t e tick last short
    ∙ same
    ∙ sym (list_read calendar (x ++ y) n (in_style NoBlank t) without tick last short)

-- also where its last day is the calendar's.
pub dated_in_both_styles : (calendar : List Date) (x y : List ℕ) (n : ℕ) (t : Terms) (tick : ℕ) →
    EachShort (tick ∷ []) →
    read_code (x ++ 32 ∷ y) ≡ Ok (coded n t) →
    row_of calendar (dated_text (x ++ 32 ∷ y) tick) ≡ row_of calendar (dated_text (x ++ y) tick)
unfolding dated_listing on_code
dated_in_both_styles calendar x y n t tick short e =
    let without = (blank_taken_out x y n t e).1.0 in
    let same : dated_listing calendar (x ++ 32 ∷ y) tick ≡ dated_listing calendar (x ++ y) tick = rw (e, without) in
    dated_read calendar (x ++ 32 ∷ y) n t e tick short
    ∙ same
    ∙ sym (dated_read calendar (x ++ y) n (in_style NoBlank t) without tick short)
