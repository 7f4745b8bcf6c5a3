-- What is promised of rows that leave the last day to the trading calendar (RULES, "Trading calendar" and "Rows").
use Prim.Native.Nat.{ℕ, ◌≤◌, ◌<◌}
use mathlib.Core.Path.{◌≡◌, refl, sym, ap, ap₂, ◌∙◌}
use mathlib.Core.List.{List, [], ◌∷◌, map}
use mathlib.Core.Logic.{⊎_elim}
use native.Mathlib.Decide.{dec_lt}
use native.Mathlib.Omega.{arith}
use lib.ListN.{length}
use Rattle.std.specs.Prelude.{Option, Some, None, Result, Ok, Err}
use Rattle.terms.specs.Refusals as no
use Rattle.contract.specs.Code as code
use Rattle.contract.specs.declared.types.Date.{Date}
use Rattle.contract.specs.declared.types.Refusal as codes
use Rattle.contract.specs.declared.types.Terms.{Terms}
use Rattle.decimal.proofs.Numerals.{length_below}
use Rattle.calendar.specs.Days.{day_from, day_of, max_dates}
use Rattle.calendar.proofs.Promises.{day_within}
use Rattle.rows.specs.Cut.{max_row}
use Rattle.rows.specs.Row.{number, on_code, on_day, listing, dated_listing, row_of}
use Rattle.rows.specs.Grammar.{Short, EachShort, Plain, list_text, dated_text, Says, numbers, list, dated}
use Rattle.rows.specs.Promises.{answer, Dated, SameRow, other, refused, unlisted, listed, SameMarket, ByDays}
use Rattle.rows.specs.declared.types.Refusal.TheVariants as refusal
use Rattle.rows.specs.Row.{Row}
use Rattle.rows.proofs.Readers.{row_long}
use Rattle.rows.proofs.RowTexts.{dated_or_not, row_read, row_said}
use Rattle.rows.proofs.Listings.{list_read, dated_read}
use Rattle.contract.specs.Code.{coded}
use Rattle.contract.specs.declared.types.Code.{Code}

-- a day of a calendar is a number that a row can give
day_short : (calendar : List Date) → length calendar ≤ max_dates → (d : Date) (day : ℕ) → day_of calendar d ≡ Some day → Short day
day_short calendar few d day e =
    record { digits = omega (arith, length_below 2 day (omega (arith, few, day_within calendar d day e))) }

module _ (calendar : List Date) (text : List ℕ) (tick : ℕ) (short : Short tick) where
  module _ (n : ℕ) (t : Terms) (e : code.read_code text ≡ Ok (coded n t)) where
    -- A row that ends after R lists as the row that gives the day of its code's date, with any calendar,
    pub listed_by_date : length calendar ≤ max_dates →
        (day : ℕ) →
        day_of calendar t.date ≡ Some day →
        (es : List Date) →
        row_of calendar (dated_text text tick) ≡ row_of es (list_text text tick day)
    unfolding listing dated_listing on_code on_day
    listed_by_date few day d es =
        let same : dated_listing calendar text tick ≡ listing text tick day = rw (e, d) in
        dated_read calendar text n t e tick (short, tt)
        ∙ same
        ∙ sym (list_read es text n t e tick day (short, (day_short calendar few t.date day d, tt)))

    -- and is 22 where the date isn't in the calendar.
    undated_row : day_of calendar t.date ≡ None → row_of calendar (dated_text text tick) ≡ Err refusal.NoTradingDate
    unfolding dated_listing on_code on_day
    undated_row d = rw (dated_read calendar text n t e tick (short, tt), e, d)

    pub no_trading_date_lem : day_of calendar t.date ≡ None → answer (row_of calendar (dated_text text tick)) ≡ no.no_trading_date
    unfolding answer number
    no_trading_date_lem d = rw (undated_row d)

  -- 17, 18 and 19 come before 22.
  module _ (plain : Plain text) (r : codes.Refusal) (e : code.read_code text ≡ Err r) (room : length (dated_text text tick) ≤ max_row) where
    refused_row : row_of calendar (dated_text text tick) ≡ Err (refusal.Code r)
    unfolding dated_listing on_code
    refused_row =
        rw (row_read calendar (dated_text text tick) (dated_listing calendar text tick) room (dated text tick plain (short, tt) refl), e)

    pub code_before_date : answer (row_of calendar (dated_text text tick)) ≡ code.number r
    unfolding answer number
    code_before_date = rw refused_row

-- ---- what the calendar leaves alone
-- rows of which each of two calendars has one answer while they are short enough
by_length : (row : List ℕ) (ds es : List Date) → (length row ≤ max_row → row_of ds row ≡ row_of es row) → row_of ds row ≡ row_of es row
by_length row ds es f = by_test (dec_lt max_row (length row))
  where
    by_test : Dec (max_row < length row) → row_of ds row ≡ row_of es row
    by_test (yes h) = sym (row_long ds row h) ∙ row_long es row h
    by_test (no h) = f (omega arith)

-- A calendar changes nothing but what rows say that end after R.
said_alike : (row : List ℕ) → (Dated row → ⊥) → (ds es : List Date) (r : Row) → Says ds row r → Says es row r
said_alike row f ds es r (numbers letter vs e n short t) = numbers letter vs e n short t
said_alike row f ds es r (list text tick last plain short t) = list text tick last plain short t
said_alike row f ds es r (dated text tick plain short t) =
    absurd (f (record { code = text; tick = tick; plain = plain; short = short.0; text = t }))

pub other_rows : (row : List ℕ) → (Dated row → ⊥) → (ds es : List Date) → row_of ds row ≡ row_of es row
other_rows row f ds es =
    by_length row ds es (λ room.
    ⊎_elim
    (λ p. ⊎_elim (λ q. sym q ∙ p) (λ s. sym (row_read es row (row_of ds row) room (said_alike row f ds es (row_of ds row) s))) (row_said ds row room))
    (λ s. row_read ds row (row_of es row) room (said_alike row f es ds (row_of es row) s))
    (row_said es row room))

-- A row that gives its last day is as it would be without a calendar.
pub last_day_given : (text : List ℕ) (tick last : ℕ) →
    length (list_text text tick last) ≤ max_row →
    Plain text →
    EachShort (tick ∷ last ∷ []) →
    (calendar : List Date) →
    row_of calendar (list_text text tick last) ≡ listing text tick last
last_day_given text tick last room plain short calendar =
    row_read calendar (list_text text tick last) (listing text tick last) room (list text tick last plain short refl)

-- ---- a whole market
-- A market listed by dates says what the same market says listed by days, with another calendar or with none.
module _ (ds : List Date) (few : length ds ≤ max_dates) (es : List Date) where
  same_row : (x y : List ℕ) → SameRow ds es x y → row_of ds x ≡ row_of es y
  same_row x y (other f e) = other_rows x f ds es ∙ ap (row_of es) e
  same_row x y (refused d r e q) =
      by_length x ds es (λ room.
      let long : length (dated_text d.code d.tick) ≤ max_row = rw d.text at room in
      ap (row_of ds) d.text
      ∙ refused_row ds d.code d.tick d.short d.plain r e long
      ∙ sym (ap (row_of es) d.text ∙ refused_row es d.code d.tick d.short d.plain r e long))
      ∙ ap (row_of es) q
  same_row x y (unlisted d n t e u v q) =
      ap (row_of ds) d.text
      ∙ undated_row ds d.code d.tick d.short n t e u
      ∙ sym (ap (row_of es) d.text ∙ undated_row es d.code d.tick d.short n t e v)
      ∙ ap (row_of es) q
  same_row x y (listed d n t day e u q) =
      ap (row_of ds) d.text ∙ listed_by_date ds d.code d.tick d.short n t e few day u es ∙ sym (ap (row_of es) q)

  pub same_market : (xs ys : List (List ℕ)) → SameMarket ds es xs ys → map (row_of ds) xs ≡ map (row_of es) ys
  same_market [] [] s = refl
  same_market [] (y ∷ ys) s = absurd s
  same_market (x ∷ xs) [] s = absurd s
  same_market (x ∷ xs) (y ∷ ys) s = ap₂ ◌∷◌ (same_row x y s.0) (same_market xs ys s.1)

-- Every market has one that is listed by days, and needs no calendar.
no_dates : (d : Date) → day_of [] d ≡ None
unfolding day_from
no_dates d = refl

by_days_row : (ds : List Date) (x : List ℕ) {R : Type 0} → ((y : List ℕ) → SameRow ds [] x y → R) → R
by_days_row ds x {R} g = ⊎_elim (λ d. by_code d (code.read_code d.code) refl) (λ f. g x (other f refl)) (dated_or_not x)
  where
    by_day : (d : Dated x) (n : ℕ) (t : Terms) → code.read_code d.code ≡ Ok (coded n t) → (day : Option ℕ) → day_of ds t.date ≡ day → R
    by_day d n t e (Some day) u = g (list_text d.code d.tick day) (listed d n t day e u refl)
    by_day d n t e None u = g x (unlisted d n t e u (no_dates t.date) refl)

    by_code : (d : Dated x) (c : Result Code codes.Refusal) → code.read_code d.code ≡ c → R
    by_code d (Ok c) e = by_day d c.future c.terms e (day_of ds c.terms.date) refl
    by_code d (Err r) e = g x (refused d r e refl)

pub by_days : (ds : List Date) (xs : List (List ℕ)) → ByDays ds xs
by_days ds [] = record { rows = []; same = tt }
by_days ds (x ∷ xs) = by_days_row ds x (λ y s. record { rows = y ∷ (by_days ds xs).rows; same = (s, (by_days ds xs).same) })
