-- What is promised of the trading calendar (RULES, "Trading calendar").
use Prim.Native.Nat.{ℕ, zero, suc, ◌+◌, ◌≤◌, ◌<◌}
use mathlib.Core.Path.{◌≡◌, refl, sym, ap, ap₂, ◌∙◌}
use mathlib.Core.Logic.{◌↔◌, ⊎_elim, inl, inr}
use mathlib.Core.List.{List, [], ◌∷◌, map}
use native.Mathlib.Omega.{arith}
use native.Mathlib.Decide.{dec_lt}
use lib.ListN.{length, take}
use lib.Seq.{length-take-le, take_all}
use Rattle.std.specs.Prelude.{Some, None}
use Rattle.contract.specs.Date.{TwoDigitsEach}
use Rattle.contract.specs.declared.types.Date.{Date}
use Rattle.calendar.specs.Days.{day_of, EarlierInYear, Earlier, Rising, max_dates, EachDate, TradingDates, number_of, date_of, dates_of, Stands}
use Rattle.calendar.specs.Text.{crlf, lines_text, Says, ended, unended, max_text, Calendar, trading, broken, calendar_of}
use Rattle.calendar.specs.File.{missing, unreadable, calendar_by}
use Rattle.calendar.proofs.Days.{date_by_lem, placed, day_at, none_at, none_stands, one_place_in}
use Rattle.calendar.proofs.Lines.{LineEnd, crlf_end, no_end, Told, RisingFrom, lines_text_lem, lines_read, lines_length}

-- ---- the day of a date, in every list of dates
-- A date gets the day that its place says, the first place at which it stands, and no other.
pub day_is_place : (ds : List Date) (d : Date) (i : ℕ) → (day_of ds d ≡ Some i) ↔ (Stands ds i d × ((j : ℕ) → Stands ds j d → i ≤ j))
day_is_place ds d i = (
  λ e.
      let p = placed 0 ds d i e in
      let z : i ≡ p.place = omega (arith, p.day_is) in
      rw z (p.stands, p.first),
  λ s.
      let z : 0 + i ≡ i = omega arith in
      day_at 0 ds d i s.0 s.1 ∙ ap Some z,
)

-- So a list of n dates gives days below n.
stands_within : (ds : List Date) (d : Date) (i : ℕ) → Stands ds i d → i < length ds
stands_within [] d i s = absurd s
stands_within (e ∷ es) d zero s = omega arith
stands_within (e ∷ es) d (suc i) s = omega (arith, stands_within es d i s)

pub day_within : (ds : List Date) (d : Date) (i : ℕ) → day_of ds d ≡ Some i → i < length ds
day_within ds d i e = stands_within ds d i ((day_is_place ds d i).0 e).0

-- A date gets no day exactly where it isn't in the list.
pub no_day : (ds : List Date) (d : Date) → (day_of ds d ≡ None) ↔ ((i : ℕ) → Stands ds i d → ⊥)
no_day ds d = (none_stands 0 ds d, none_at 0 ds d)

-- No date gets two days.
pub one_day : (ds : List Date) (d : Date) (i j : ℕ) → day_of ds d ≡ Some i → day_of ds d ≡ Some j → i ≡ j
one_day ds d i j p q = let z : Some i ≡ Some j = sym p ∙ q in cc

-- ---- in every list that is strictly rising
-- No date stands at two places,
pub one_place : (ds : List Date) → Rising ds → (d : Date) (i j : ℕ) → Stands ds i d → Stands ds j d → i ≡ j
one_place ds r d i j s t = one_place_in ds d i j r s t

-- and a date in the list gets the day that its place says.
pub day_of_place : (ds : List Date) → Rising ds → (d : Date) (i : ℕ) → Stands ds i d → day_of ds d ≡ Some i
day_of_place ds r d i s = (day_is_place ds d i).1 (s, λ m t. omega (arith, one_place ds r d i m s t))

-- ---- dates and their numbers
-- Of dates of two digits each the earlier has the smaller number.
pub in_order : (d e : Date) → TwoDigitsEach d → TwoDigitsEach e → (number_of d < number_of e) ↔ Earlier d e
in_order d e s t = (
  λ h. by_year h (dec_lt d.year e.year),
  λ h. ⊎_elim (λ y. omega (arith, s.day, s.month, t.day, t.month))
      (λ p. ⊎_elim (λ m. omega (arith, p.0, s.day, t.day)) (λ q. omega (arith, p.0, q.0, q.1)) p.1) h,
)
  where
    by_month : number_of d < number_of e → d.year ≡ e.year → Dec (d.month < e.month) → EarlierInYear d e
    by_month h y (yes m) = inl m
    by_month h y (no m) =
        let z : d.month ≡ e.month = omega (arith, h, y, m, s.day, t.day) in
        inr (z, omega (arith, h, y, z))

    by_year : number_of d < number_of e → Dec (d.year < e.year) → Earlier d e
    by_year h (yes y) = inl y
    by_year h (no y) =
        let z : d.year ≡ e.year = omega (arith, h, y, s.day, s.month, t.day, t.month) in
        inr (z, by_month h z (dec_lt d.month e.month))

-- The number of a date says that date,
pub date_of_number : (d : Date) → TwoDigitsEach d → date_of (number_of d) ≡ d
date_of_number d t =
    date_by_lem (date_of (number_of d)) d
    (omega (arith, t.day, t.month))
    (omega (arith, t.day, t.month))
    (omega (arith, t.day, t.month))

-- so that every list of a calendar's dates can be lent.
pub dates_lent : (ds : List Date) → EachDate ds → dates_of (map number_of ds) ≡ ds
dates_lent [] t = refl
dates_lent (d ∷ ds) t = ap₂ ◌∷◌ (date_of_number d t.0.1) (dates_lent ds t.1)

-- The dates of a calendar rise where their numbers do, the first of which is above 0.
dates_rise : (n : ℕ) (ds : List Date) → EachDate ds → RisingFrom n ds → Rising ds
dates_rise n [] t r = tt
dates_rise n (d ∷ []) t r = tt
dates_rise n (d ∷ e ∷ ds) t r =
    ((in_order d e t.0.1 t.1.0.1).0 r.1.0, dates_rise (number_of d) (e ∷ ds) t.1 r.1)

numbers_rise : (n : ℕ) (d : Date) (ds : List Date) → n < number_of d → EachDate (d ∷ ds) → Rising (d ∷ ds) → RisingFrom n (d ∷ ds)
numbers_rise n d [] h t r = (h, tt)
numbers_rise n d (e ∷ ds) h t r =
    (h, numbers_rise (number_of d) e ds ((in_order d e t.0.1 t.1.0.1).1 r.0) t.1 r.1)

all_numbers_rise : (ds : List Date) → EachDate ds → Rising ds → RisingFrom 0 ds
all_numbers_rise [] t r = tt
all_numbers_rise (d ∷ ds) t r = numbers_rise 0 d ds (omega (arith, t.0.0.first)) t r

-- ---- reading, of every list of bytes
told : (text : List ℕ) (ds : List Date) → Says text ds → Told text ds
told text ds (ended e) = record { end = crlf; is_end = crlf_end refl; says = e }
told text ds (unended e) = record { end = []; is_end = no_end refl; says = e }

says : (text : List ℕ) (ds : List Date) → Told text ds → Says text ds
says text ds t = by_end t.end t.is_end t.says
  where
    by_end : (end : List ℕ) → LineEnd end → text ≡ lines_text end ds → Says text ds
    by_end end (crlf_end z) e = ended (e ∙ ap (λ (x : List ℕ). lines_text x ds) z)
    by_end end (no_end z) e = unended (e ∙ ap (λ (x : List ℕ). lines_text x ds) z)

-- Bytes are read as dates exactly where they are the lines of these dates and the dates are a calendar's.
pub calendar_read : (text : List ℕ) (ds : List Date) → (calendar_of text ≡ trading ds) ↔ (TradingDates ds × Says text ds)
unfolding calendar_of
calendar_read text ds = (
  λ e.
      let l = lines_text_lem max_dates text 0 0 ds e in
      (record { few = l.few; dates = l.dates; rising = dates_rise 0 ds l.dates l.rising }, says text ds l.told),
  λ p.
      let t = told text ds p.1 in
      lines_read max_dates text 0 0 t.end ds t.is_end p.0.few p.0.dates (all_numbers_rise ds p.0.dates p.0.rising) t.says,
)

-- Else they are no calendar, which is 21.
pub calendar_refused : (text : List ℕ) → (calendar_of text ≡ broken) ↔ ((ds : List Date) → TradingDates ds → Says text ds → ⊥)
calendar_refused text = (
  λ e ds t s.
      let z : broken ≡ trading ds = sym e ∙ (calendar_read text ds).1 (t, s) in
      let o : ◌≡◌ {A = ℕ} 0 1 = cc in
      omega arith,
  λ f.
      by_case (calendar_of text) refl f,
)
  where
    by_case : (c : Calendar) → calendar_of text ≡ c → ((ds : List Date) → TradingDates ds → Says text ds → ⊥) → c ≡ broken
    by_case (trading ds) e f = let p = (calendar_read text ds).0 e in absurd (f ds p.0 p.1)
    by_case broken e f = refl

-- So in every calendar that is read a date in the list gets the day that its place says.
pub day_in_calendar : (text : List ℕ) (ds : List Date) → calendar_of text ≡ trading ds → (d : Date) (i : ℕ) → Stands ds i d → day_of ds d ≡ Some i
day_in_calendar text ds e = day_of_place ds ((calendar_read text ds).0 e).0.rising

-- More bytes than 1,000 lines can have are no calendar,
pub too_many_bytes : (text : List ℕ) → max_text < length text → calendar_of text ≡ broken
too_many_bytes text h =
    (calendar_refused text).1 (λ ds t s.
    let l = told text ds s in
    omega (arith, ap length l.says, lines_length l.end ds l.is_end, t.few))

-- so that the first 8,001 bytes tell what all do.
pub first_bytes_tell : (text : List ℕ) → calendar_of (take (max_text + 1) text) ≡ calendar_of text
first_bytes_tell text = by_length (dec_lt max_text (length text))
  where
    by_length : Dec (max_text < length text) → calendar_of (take (max_text + 1) text) ≡ calendar_of text
    by_length (yes h) =
        too_many_bytes (take (max_text + 1) text) (omega (arith, length-take-le (max_text + 1) text (omega arith)))
        ∙ sym (too_many_bytes text h)
    by_length (no h) = ap calendar_of (take_all (max_text + 1) text (omega arith))

-- ---- the file
-- No such file is an empty calendar, and one that can't be read is none.
pub missing_file : calendar_by missing ≡ trading []
unfolding calendar_by
missing_file = refl

pub unreadable_file : calendar_by unreadable ≡ broken
unfolding calendar_by
unreadable_file = refl
