-- The bytes of a code: capitals, digits, hyphens and points, and no blank but that of its style.
use Prim.Native.Nat.{ℕ, ◌+◌, ◌-◌, ◌/◌, ◌%◌, ◌≤◌, ◌<◌}
use mathlib.Core.Path.{◌≡◌, refl, sym, ap, ◌∙◌}
use mathlib.Core.Bool.{Bool, true, false}
use mathlib.Core.List.{List, [], ◌∷◌, ◌++◌, append_assoc}
use mathlib.Core.Logic.{◌⊎◌, inl, inr}
use native.Mathlib.Omega.{arith}
use lib.ListN.{length, get_or, length-append, get_or-append}
use lib.Seq.{drop_at, get_or-drop}
use lib.Dec.{ltb, eqb}
use borrow.Author.Tests.{ltb-true, ltb-false}
use Rattle.choice.specs.Choice.{choose}
use Rattle.decimal.specs.Text.{digit_byte, decimal, pairs, two_digits}
use Rattle.decimal.proofs.Numerals.{length_some}
use Rattle.decimal.proofs.Each.{Each, each_join, each_not, decimal_each}
use Rattle.terms.specs.declared.OptionType.{OptionType}
use Rattle.terms.specs.declared.OptionType.TheVariants.{Call, Put}
use Rattle.terms.specs.declared.Category.{Category}
use Rattle.terms.specs.declared.Category.TheVariants.{American, European}
use Rattle.contract.specs.Future.{Capitals, FutureCode}
use Rattle.contract.specs.Date.{TwoDigitsEach, date_text}
use Rattle.contract.specs.Kind.{type_byte, category_byte, kind_text}
use Rattle.contract.specs.Style.{style_text}
use Rattle.contract.specs.Strike.{hundredths_text, strike_text}
use Rattle.contract.specs.Code.{code_text, Says}
use Rattle.contract.specs.Promises.{behind_category, CodeByte, capital, digit, hyphen, point}
use Rattle.contract.specs.declared.types.Terms.{Terms}
use Rattle.contract.specs.declared.types.Style.{Style}
use Rattle.contract.specs.declared.types.Style.TheVariants.{Blank, NoBlank}
use Rattle.contract.proofs.StrikeField.{length_strike}

-- ---- the bytes of each field
digits : (d : ℕ) → d ≤ 9 → CodeByte (digit_byte d)
digits d h = digit (omega arith) (omega arith)

two_bytes : (v : ℕ) → v < pairs → Each CodeByte (two_digits v)
two_bytes v h = (digits (v / 10) (omega arith), (digits (v % 10) (omega arith), tt))

capitals : (l : List ℕ) → Capitals l → Each CodeByte l
capitals [] c = tt
capitals (b ∷ bs) c = (capital c.0.0 c.0.1, capitals bs c.1)

future_bytes : (f : List ℕ) → FutureCode f → Each CodeByte f
future_bytes f c =
    rw c.text
    (each_join CodeByte c.name _ (capitals c.name c.capitals)
    (hyphen refl, each_join CodeByte (decimal c.month) _ (decimal_each CodeByte digits c.month) (point refl, two_bytes c.year c.century)))

date_bytes : (t : Terms) → TwoDigitsEach t.date → Each CodeByte (date_text t.date)
date_bytes t c =
    let day = two_digits t.date.day in
    let month = two_digits t.date.month in
    let year = two_digits t.date.year in
    each_join CodeByte day (month ++ year) (two_bytes t.date.day c.day)
    (each_join CodeByte month year (two_bytes t.date.month c.month) (two_bytes t.date.year c.year))

type_byte_lem : (o : OptionType) → CodeByte (type_byte o)
unfolding type_byte
type_byte_lem Call = capital (omega arith) (omega arith)
type_byte_lem Put = capital (omega arith) (omega arith)

category_byte_lem : (g : Category) → CodeByte (category_byte g)
unfolding category_byte
category_byte_lem American = capital (omega arith) (omega arith)
category_byte_lem European = capital (omega arith) (omega arith)

hundredths_bytes : (f : ℕ) → f < 100 → Each CodeByte (hundredths_text f)
unfolding hundredths_text choose
hundredths_bytes f h = by_test (eqb f 0) (eqb (f % 10) 0)
  where
    by_test : (t u : Bool) → Each CodeByte (choose t [] (46 ∷ digit_byte (f / 10) ∷ choose u [] (digit_byte (f % 10) ∷ [])))
    by_test true u = tt
    by_test false true = (point refl, (digits (f / 10) (omega arith), tt))
    by_test false false = (point refl, (digits (f / 10) (omega arith), (digits (f % 10) (omega arith), tt)))

strike_bytes : (h : ℕ) → Each CodeByte (strike_text h)
strike_bytes h =
    each_join CodeByte (decimal (h / 100)) _ (decimal_each CodeByte digits (h / 100)) (hundredths_bytes (h % 100) (omega arith))

-- ---- the code up to its category letter, and what follows
abbrev pub head : List ℕ → Terms → List ℕ
head f t = f ++ (77 ∷ (date_text t.date ++ kind_text t.option t.category))

pub code_split : (f : List ℕ) (t : Terms) → code_text f t ≡ head f t ++ (style_text t.style ++ strike_text t.strike)
code_split f t =
    sym (append_assoc f (77 ∷ (date_text t.date ++ kind_text t.option t.category)) (style_text t.style ++ strike_text t.strike))

pub head_behind : (f : List ℕ) (t : Terms) → length (head f t) ≡ behind_category f
head_behind f t = omega (arith, length-append f (77 ∷ (date_text t.date ++ kind_text t.option t.category)))

head_bytes : (f : List ℕ) (t : Terms) → FutureCode f → TwoDigitsEach t.date → Each CodeByte (head f t)
head_bytes f t c d =
    let date = date_text t.date in
    let kind = kind_text t.option t.category in
    let letters : Each CodeByte kind = (type_byte_lem t.option, (category_byte_lem t.category, tt)) in
    each_join CodeByte f (77 ∷ (date ++ kind)) (future_bytes f c)
    (capital (omega arith) (omega arith), each_join CodeByte date kind (date_bytes t d) letters)

-- ---- where a blank can stand

no_blank : CodeByte 32 → ⊥
no_blank (capital a b) = omega arith
no_blank (digit a b) = omega arith
no_blank (hyphen e) = omega arith
no_blank (point e) = omega arith

-- a byte of two texts stands in the first or in the second
stands : (l m : List ℕ) (i b : ℕ) →
    get_or (l ++ m) i 0 ≡ b →
    ((i < length l) × (get_or l i 0 ≡ b)) ⊎ ((length l ≤ i) × (get_or m (i - length l) 0 ≡ b))
stands l m i b e = by_place (ltb i (length l)) refl
  where
    by_place : (t : Bool) →
        ltb i (length l) ≡ t →
        ((i < length l) × (get_or l i 0 ≡ b)) ⊎ ((length l ≤ i) × (get_or m (i - length l) 0 ≡ b))
    by_place true p = let h = ltb-true i (length l) p in inl (h, sym (get_or-append l m 0 i h) ∙ e)
    by_place false p =
        let h = ltb-false i (length l) p in
        let there : length l + (i - length l) ≡ i = omega arith in
        inr (
          h,
          ap (λ (x : List ℕ). get_or x (i - length l) 0) (sym (drop_at l m (length l) refl))
              ∙ get_or-drop (length l) (l ++ m) (i - length l) 0
              ∙ ap (λ (k : ℕ). get_or (l ++ m) k 0) there
              ∙ e,
        )

-- behind the category letter, in the style that has it
style_blank : (z : Style) (i : ℕ) → i < length (style_text z) → (z ≡ Blank) × (i ≡ 0)
unfolding style_text
style_blank Blank i h = (refl, omega arith)
style_blank NoBlank i h = absurd (omega arith)

pub blank_place : (s f : List ℕ) (t : Terms) (i : ℕ) → Says s f t → get_or s i 0 ≡ 32 → (t.style ≡ Blank) × (i ≡ behind_category f)
blank_place s f t i c e =
    by_part (stands (head f t) last i 32 (ap (λ (l : List ℕ). get_or l i 0) (sym (c.text ∙ code_split f t)) ∙ e))
  where
    last : List ℕ
    last = style_text t.style ++ strike_text t.strike

    n : ℕ
    n = length (head f t)

    in_last : n ≤ i →
        ((i - n < length (style_text t.style)) × (get_or (style_text t.style) (i - n) 0 ≡ 32))
        ⊎ ((length (style_text t.style) ≤ i - n) × (get_or (strike_text t.strike) (i - n - length (style_text t.style)) 0 ≡ 32)) →
        (t.style ≡ Blank) × (i ≡ behind_category f)
    in_last h (inl p) =
        let q = style_blank t.style (i - n) p.0 in
        (q.0, omega (arith, q.1, head_behind f t))
    in_last h (inr p) =
        absurd (each_not CodeByte 32 (omega arith) no_blank (strike_text t.strike) (strike_bytes t.strike) _ p.1)

    by_part : ((i < n) × (get_or (head f t) i 0 ≡ 32)) ⊎ ((n ≤ i) × (get_or last (i - n) 0 ≡ 32)) →
        (t.style ≡ Blank) × (i ≡ behind_category f)
    by_part (inl p) =
        absurd (each_not CodeByte 32 (omega arith) no_blank (head f t) (head_bytes f t c.code c.digits) i p.1)
    by_part (inr p) = in_last p.0 (stands (style_text t.style) (strike_text t.strike) (i - n) 32 p.1)

-- a strike stands behind it
pub behind_blank : (s f : List ℕ) (t : Terms) → Says s f t → t.style ≡ Blank → behind_category f + 1 < length s
unfolding style_text
behind_blank s f t c e =
    let last = strike_text t.strike in
    let whole : s ≡ head f t ++ (32 ∷ last) = c.text ∙ code_split f t ∙ rw e in
    omega (arith, ap length whole ∙ length-append (head f t) (32 ∷ last), head_behind f t, length_strike t.strike, length_some (t.strike / 100))

-- ---- every byte
abbrev pub ByteOfCode : ℕ → Type 0
ByteOfCode b = CodeByte b ⊎ (b ≡ 32)

beside : (l : List ℕ) → Each CodeByte l → Each ByteOfCode l
beside [] u = tt
beside (b ∷ bs) u = (inl u.0, beside bs u.1)

style_bytes : (z : Style) → Each ByteOfCode (style_text z)
unfolding style_text
style_bytes Blank = (inr refl, tt)
style_bytes NoBlank = tt

pub code_bytes : (s f : List ℕ) (t : Terms) → Says s f t → Each ByteOfCode s
code_bytes s f t c =
    rw (c.text, code_split f t)
    (each_join ByteOfCode (head f t) _ (beside (head f t) (head_bytes f t c.code c.digits))
    (each_join ByteOfCode (style_text t.style) _ (style_bytes t.style) (beside (strike_text t.strike) (strike_bytes t.strike))))
