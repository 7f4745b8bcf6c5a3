-- The strike (RULES, "Contract codes"): roubles or dollars with no leading zero save a lone 0, and a point with one or two
-- digits only if the last isn't 0. It is counted in hundredths and ends the code.
use Rattle.std.specs.Prelude.{ℕ, ◌+◌, ◌*◌, ◌/◌, ◌%◌, min, List, [], ◌∷◌, ◌++◌, length, get_or, leb, ltb, eqb, Option, Some, None, Err}
use Rattle.choice.specs.Choice.{choose}
use Rattle.terms.specs.Bounds.{max_strike}
use Rattle.decimal.specs.Text.{digit_byte, decimal}
use Rattle.decimal.specs.Read.{digit_of, numeral_at, on_numeral}
use Rattle.decimal.specs.Scan.{on_scanned, byte_at}
use Rattle.contract.specs.Bounds.{too_many_units}
use Rattle.contract.specs.declared.types.Refusal.TheVariants.{StrikeText}
use Rattle.contract.specs.Verdict.{Verdict, passed}

-- the text of so many hundredths after the units: none, the point and one digit, or the point and two
unfoldable pub hundredths_text : ℕ → List ℕ
hundredths_text part =
    choose (eqb part 0) []
    (46 ∷ digit_byte (part / 10) ∷ choose (eqb (part % 10) 0) [] (digit_byte (part % 10) ∷ []))

abbrev pub strike_text : ℕ → List ℕ
strike_text strike = decimal (strike / 100) ++ hundredths_text (strike % 100)

-- reading the digits after the point, to the end
unfoldable pub fraction_at : List ℕ → ℕ → Option ℕ
fraction_at s at =
    let tens = digit_of (get_or s at 0) in
    let ones = digit_of (get_or s (at + 1) 0) in
    choose (leb tens 9)
    (choose (eqb (at + 1) (length s))
    (choose (eqb tens 0) None (Some (tens * 10)))
    (choose (leb ones 9)
    (choose (eqb ones 0) None
    (choose (eqb (at + 1 + 1) (length s)) (Some (tens * 10 + ones)) None))
    None))
    None

-- reading what follows the units, to the end
unfoldable pub hundredths_at : List ℕ → ℕ → Option ℕ
hundredths_at s at =
    choose (eqb at (length s)) (Some 0) (on_scanned (byte_at s at 46) None (λ i. fraction_at s i))

unfoldable pub on_hundredths : {A : Type 0} → Option ℕ → A → (ℕ → A) → A
on_hundredths (Some f) none next = next f
on_hundredths None none next = none

-- Strikes above 100000 are all refused, and the reader need not tell them apart: their units count as the least such.
abbrev pub counted : ℕ → ℕ
counted strike = min (strike / 100) too_many_units * 100 + strike % 100

unfoldable pub strike_at : List ℕ → ℕ → Option ℕ
strike_at s at =
    on_numeral (numeral_at s at) None (λ units i.
    on_hundredths (hundredths_at s i) None (λ part. Some (counted (units * 100 + part))))

unfoldable pub on_strike : {A : Type 0} → Option ℕ → A → (ℕ → A) → A
on_strike (Some h) none next = next h
on_strike None none next = none

-- RULES, "Refusals", 19: a strike is from 0.01 to 100000
unfoldable pub strike_verdict : ℕ → Verdict
strike_verdict strike =
    choose (ltb strike 1) (Err StrikeText) (choose (ltb strike (max_strike + 1)) passed (Err StrikeText))
