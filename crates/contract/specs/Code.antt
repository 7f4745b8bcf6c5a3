-- Contract codes (RULES, "Contract codes"): futures code, M, DDMMYY, C or P, A or E, one blank or none, strike.
use Rattle.std.specs.Prelude.{ℕ, ◌-◌, ◌≡◌, List, [], ◌∷◌, ◌++◌, length, take, replicate, leb, eqb, Option, Some, None, Result, Ok, Err}
use Rattle.choice.specs.Choice.{choose}
use Rattle.terms.specs.Refusals as no
use Rattle.decimal.specs.Scan.{on_scanned, byte_at}
use Rattle.decimal.specs.Text.{pairs}
use Rattle.contract.specs.Bounds.{max_code}
use Rattle.contract.specs.Future.{FutureCode, future_at}
use Rattle.contract.specs.Date.{TwoDigitsEach, date_verdict, date_text, date_at, on_date}
use Rattle.contract.specs.Kind.{kind_text, kind_at, on_kind}
use Rattle.contract.specs.Style.{style_text, style_at, on_style}
use Rattle.contract.specs.Strike.{strike_text, strike_at, on_strike, strike_verdict}
use Rattle.contract.specs.declared.types.Terms.{Terms}
use Rattle.contract.specs.declared.types.Refusal.{Refusal}
use Rattle.contract.specs.declared.types.Refusal.TheVariants.{Layout, NoDate, StrikeText}
use Rattle.contract.specs.declared.types.Code.{Code}
use Rattle.contract.specs.Verdict.{Verdict}
use Rattle.contract.specs.declared.types.Written.{Written}

-- RULES, "Refusals": the number of each
unfoldable pub number : Refusal → ℕ
number Layout = no.code
number NoDate = no.date
number StrikeText = no.strike_text

-- the text of a futures code and the other terms; M is 77
abbrev pub code_text : List ℕ → Terms → List ℕ
code_text future terms =
    future
    ++ (77
    ∷ (date_text terms.date
    ++ (kind_text terms.option terms.category ++ (style_text terms.style ++ strike_text terms.strike))))

-- the bytes have a code's layout and say these terms, whether or not there is such a date and such a strike
pub record Says (bytes future : List ℕ) (terms : Terms) : Type 0 where
  pub code : FutureCode future
  pub digits : TwoDigitsEach terms.date
  pub text : bytes ≡ code_text future terms

-- what a code says, by the length of its futures code and the other terms
abbrev pub coded : ℕ → Terms → Code
coded future terms = record { future = future; terms = terms }

-- Reading: the layout of the whole first, then the date, then the strike.

unfoldable pub layout_at : List ℕ → Option Code
layout_at s =
    on_scanned (future_at s) None (λ n.
    on_scanned (byte_at s n 77) None (λ a.
    on_date (date_at s a) None (λ date b.
    on_kind (kind_at s b) None (λ option category c.
    on_style (style_at s c) None (λ style d.
    on_strike (strike_at s d) None (λ strike.
    Some (coded n (record { date = date; option = option; category = category; style = style; strike = strike }))))))))

unfoldable pub on_layout : {A : Type 0} → Option Code → A → (ℕ → Terms → A) → A
on_layout (Some c) none next = next c.future c.terms
on_layout None none next = none

unfoldable pub on_verdict : {A : Type 0} → Verdict → A → (Refusal → A) → A
on_verdict (Ok u) fine refused = fine
on_verdict (Err r) fine refused = refused r

-- of two verdicts in order, the first that refuses
unfoldable pub in_order : Verdict → Verdict → Verdict
in_order (Ok u) second = second
in_order (Err r) second = Err r

unfoldable pub verdict_of : Terms → Verdict
verdict_of terms = in_order (date_verdict terms.date) (strike_verdict terms.strike)

unfoldable pub read_code : List ℕ → Result Code Refusal
read_code s = on_layout (layout_at s) (Err Layout) (λ n terms. on_verdict (verdict_of terms) (Ok (coded n terms)) (λ r. Err r))

unfoldable pub on_read : {A : Type 0} → Result Code Refusal → A → (ℕ → Terms → A) → A
on_read (Ok c) refused next = next c.future c.terms
on_read (Err r) refused next = refused

-- the futures code that a code begins with, empty where the code is refused
unfoldable pub future_of : List ℕ → List ℕ
future_of s = on_read (read_code s) [] (λ n terms. take n s)

-- Writing. Terms whose date does not go into two digits each have no layout.

unfoldable pub terms_verdict : Terms → Verdict
terms_verdict terms =
    choose (leb pairs terms.date.day) (Err Layout)
    (choose (leb pairs terms.date.month) (Err Layout)
    (choose (leb pairs terms.date.year) (Err Layout) (verdict_of terms)))

unfoldable pub write_verdict : List ℕ → Terms → Verdict
write_verdict future terms =
    on_scanned (future_at future) (Err Layout) (λ n.
    choose (eqb n (length future)) (terms_verdict terms) (Err Layout))

-- a code with 0 in the places past it, up to the longest
abbrev pub accepted : List ℕ → Result Written Refusal
accepted code = Ok (record { bytes = code ++ replicate (max_code - length code) 0; len = length code })

abbrev pub refused : Refusal → Result Written Refusal
refused r = Err r

unfoldable pub written : List ℕ → Terms → Result Written Refusal
written future terms = on_verdict (write_verdict future terms) (accepted (code_text future terms)) refused
