-- The strike: the steps of its reader and writer, and text and reading as each other's inverse.
use Prim.Native.Nat.{ℕ, ◌+◌, ◌*◌, ◌/◌, ◌%◌, ◌≤◌, ◌<◌, min}
use mathlib.Core.Path.{◌≡◌, refl, sym, ap, ◌∙◌}
use mathlib.Core.Bool.{Bool, true, false}
use mathlib.Core.List.{List, [], ◌∷◌}
use native.Mathlib.Omega.{arith}
use lib.ListN.{length, drop, get_or, length-append, length-drop}
use lib.Seq.{drop-length}
use lib.Dec.{leb, eqb}
use mir.Val.{Fits}
use mir.Syntax.{w64}
use borrow.Author.Tests.{le-leb, eq-eqb, ne_eqb, leb-true, eqb-true, eqb-false}
use Rattle.std.proofs.lemmas.Option.{none-some}
use Rattle.std.specs.Prelude.{Option, Some, None}
use Rattle.choice.specs.Choice.{choose}
use Rattle.terms.specs.Bounds.{max_strike}
use Rattle.decimal.specs.Text.{digit_byte, decimal}
use Rattle.decimal.specs.Read.{digit_of, numeral_on, numeral_at, capped, on_numeral}
use Rattle.decimal.specs.Put.{Put}
use Rattle.decimal.proofs.Choices.{held, failed}
use Rattle.decimal.proofs.Places.{drop_next, here_in, here_byte, here_next, after_text, ends}
use Rattle.decimal.proofs.Digits.{digit_of_lem, digit_byte_lem, digit_in}
use Rattle.decimal.proofs.Reading.{capped_value, capped_none, capped_most}
use Rattle.decimal.proofs.Numerals.{NoDigit, end_no_digit, byte_no_digit, after_numeral, numeral_read, numeral_text, length_some, length_below}
use Rattle.decimal.proofs.Putting.{then}
use Rattle.decimal.specs.Scan.{on_scanned, byte_at}
use Rattle.contract.specs.Strike.{hundredths_text, strike_text, fraction_at, hundredths_at, on_hundredths, counted, strike_at, on_strike}
use Rattle.contract.specs.Bounds.{too_many_units, max_strike_text}
use Rattle.contract.proofs.Scanning.{after_scanned, byte_read, byte_text}

-- ---- what follows the strike, by what its reader answered
module _ {A : Type 0} (x : A) (k : ℕ → A) (r m : Option ℕ) where
  pub struck : (y : A) (h : ℕ) → r ≡ m → r ≡ Some h → y ≡ k h → y ≡ on_strike m x k
  unfolding on_strike
  struck y h p q e = rw (← p, q) e

  pub unstruck : (y : A) → r ≡ m → r ≡ None → y ≡ x → y ≡ on_strike m x k
  unfolding on_strike
  unstruck y p q e = rw (← p, q) e

pub after_strike : {A R : Type 0} (x y : A) →
    (x ≡ y → ⊥) →
    (m : Option ℕ) (k : ℕ → A) →
    on_strike m x k ≡ y →
    ((h : ℕ) → m ≡ Some h → k h ≡ y → R) →
    R
unfolding on_strike
after_strike x y f (Some h) k e g = g h refl e
after_strike x y f None k e g = absurd (f e)

-- ---- the digits after the point
fraction_text : (s : List ℕ) (at f : ℕ) → fraction_at s at ≡ Some f → (f < 100) × (46 ∷ drop at s ≡ hundredths_text f)
unfolding fraction_at hundredths_text choose
fraction_text s at f e =
    let p = held (leb (digit_of (get_or s at 0)) 9) _ None (Some f) e (none-some _) in
    by_end (leb-true _ _ p.0) (eqb (at + 1) (length s)) refl p.1
  where
    a : ℕ
    a = digit_of (get_or s at 0)

    b : ℕ
    b = digit_of (get_or s (at + 1) 0)

    first : a ≤ 9 → drop at s ≡ digit_byte a ∷ drop (at + 1) s
    first g = drop_next s at (digit_in s at _ refl g) ∙ rw (← digit_byte_lem (get_or s at 0) g)

    by_end : a ≤ 9 →
        (t : Bool) →
        eqb (at + 1) (length s) ≡ t →
        choose t
        (choose (eqb a 0) None (Some (a * 10)))
        (choose (leb b 9)
        (choose (eqb b 0) None (choose (eqb (at + 1 + 1) (length s)) (Some (a * 10 + b)) None))
        None)
        ≡ Some f →
        (f < 100) × (46 ∷ drop at s ≡ hundredths_text f)
    by_end g true q e =
        let p = failed (eqb a 0) None _ (Some f) e (none-some _) in
        let z : a * 10 ≡ f = let k = p.1 in cc in
        let nz = eqb-false a 0 p.0 in
        let d : f / 10 ≡ a = omega arith in
        let r : f % 10 ≡ 0 = omega arith in (
          omega arith,
          rw (first g, eqb-true (at + 1) (length s) q, drop-length s, ne_eqb f 0 (λ w. nz (omega arith)), d, r),
        )
    by_end g false q e =
        let p = held (leb b 9) _ None (Some f) e (none-some _) in
        let u = failed (eqb b 0) None _ (Some f) p.1 (none-some _) in
        let r = held (eqb (at + 1 + 1) (length s)) _ None (Some f) u.1 (none-some _) in
        let g' : b ≤ 9 = leb-true _ _ p.0 in
        let z : a * 10 + b ≡ f = let k = r.1 in cc in
        let nz = eqb-false b 0 u.0 in
        let d : f / 10 ≡ a = omega arith in
        let d' : f % 10 ≡ b = omega arith in (
          omega arith,
          rw (
            first g,
            drop_next s (at + 1) (digit_in s (at + 1) _ refl g'),
            digit_byte_lem (get_or s (at + 1) 0) g',
            eqb-true (at + 1 + 1) (length s) r.0,
            drop-length s,
            ne_eqb f 0 (λ w. nz (omega arith)),
            d,
            d',
            ne_eqb b 0 nz,
          ),
        )

fraction_read : (s : List ℕ) (at f : ℕ) →
    0 < f →
    f < 100 →
    drop at s ≡ digit_byte (f / 10) ∷ choose (eqb (f % 10) 0) [] (digit_byte (f % 10) ∷ []) →
    fraction_at s at ≡ Some f
unfolding fraction_at choose
fraction_read s at f p q e = by_test (eqb (f % 10) 0) refl e
  where
    by_test : (t : Bool) →
        eqb (f % 10) 0 ≡ t →
        drop at s ≡ digit_byte (f / 10) ∷ choose t [] (digit_byte (f % 10) ∷ []) →
        fraction_at s at ≡ Some f
    by_test true z e =
        let zero-last : f % 10 ≡ 0 = eqb-true (f % 10) 0 z in
        let a : digit_of (get_or s at 0) ≡ f / 10 = ap digit_of (here_byte s at _ _ e) ∙ digit_of_lem (f / 10) (omega arith) in
        let k : at + 1 ≡ length s = omega (arith, ends s at (digit_byte (f / 10) ∷ []) [] e (omega arith)) in
        let m : f / 10 * 10 ≡ f = omega arith in
        rw (a, le-leb (f / 10) 9 (omega arith), eq-eqb (at + 1) (length s) k, ne_eqb (f / 10) 0 (λ w. omega arith), m)
    by_test false z e =
        let nz = eqb-false (f % 10) 0 z in
        let a : digit_of (get_or s at 0) ≡ f / 10 = ap digit_of (here_byte s at _ _ e) ∙ digit_of_lem (f / 10) (omega arith) in
        let e' = here_next s at _ _ e in
        let b : digit_of (get_or s (at + 1) 0) ≡ f % 10 =
        ap digit_of (here_byte s (at + 1) _ _ e') ∙ digit_of_lem (f % 10) (omega arith)
        in
        let k : at + 1 + 1 ≡ length s = omega (arith, ends s (at + 1) (digit_byte (f % 10) ∷ []) [] e' (omega arith)) in
        let m : f / 10 * 10 + f % 10 ≡ f = omega arith in
        rw (
          a,
          b,
          le-leb (f / 10) 9 (omega arith),
          ne_eqb (at + 1) (length s) (λ w. omega arith),
          le-leb (f % 10) 9 (omega arith),
          ne_eqb (f % 10) 0 nz,
          eq-eqb (at + 1 + 1) (length s) k,
          m,
        )

-- ---- what follows the units
hundredths_text_lem : (s : List ℕ) (at f : ℕ) → hundredths_at s at ≡ Some f → (f < 100) × (drop at s ≡ hundredths_text f)
unfolding hundredths_at hundredths_text choose
hundredths_text_lem s at f e = by_end (eqb at (length s)) refl e
  where
    by_end : (t : Bool) →
        eqb at (length s) ≡ t →
        choose t (Some 0) (on_scanned (byte_at s at 46) None (λ i. fraction_at s i)) ≡ Some f →
        (f < 100) × (drop at s ≡ hundredths_text f)
    by_end true g e =
        let z : 0 ≡ f = cc in
        (omega arith, rw (← z, eqb-true at (length s) g, drop-length s))
    by_end false g e =
        after_scanned None (Some f) (none-some _) (byte_at s at 46) _ e (λ i p q.
        ((fraction_text s i f q).0, byte_text s at 46 i p ∙ (fraction_text s i f q).1))

hundredths_read : (s : List ℕ) (at f : ℕ) → at ≤ length s → f < 100 → drop at s ≡ hundredths_text f → hundredths_at s at ≡ Some f
unfolding hundredths_at hundredths_text on_scanned choose
hundredths_read s at f w h e = by_test (eqb f 0) refl e
  where
    by_test : (t : Bool) →
        eqb f 0 ≡ t →
        drop at s ≡ choose t [] (46 ∷ digit_byte (f / 10) ∷ choose (eqb (f % 10) 0) [] (digit_byte (f % 10) ∷ [])) →
        hundredths_at s at ≡ Some f
    by_test true z e =
        let k : at ≡ length s = omega (arith, sym (length-drop at s) ∙ ap length e) in
        rw (eq-eqb at (length s) k, eqb-true f 0 z)
    by_test false z e =
        rw (ne_eqb at (length s) (λ k. omega (arith, here_in s at 46 _ e)), byte_read s at 46 _ e)
        (fraction_read s (at + 1) f (omega (arith, eqb-false f 0 z)) h (here_next s at 46 _ e))

-- ---- the strike
units_of : (u f : ℕ) → f < 100 → (u * 100 + f) / 100 ≡ u
units_of u f h = omega arith

part_of : (u f : ℕ) → f < 100 → (u * 100 + f) % 100 ≡ f
part_of u f h = omega arith

after_hundredths : {R : Type 0} (y : Option ℕ) →
    (None ≡ y → ⊥) →
    (m : Option ℕ) (k : ℕ → Option ℕ) →
    on_hundredths m None k ≡ y →
    ((f : ℕ) → m ≡ Some f → k f ≡ y → R) →
    R
unfolding on_hundredths
after_hundredths y f (Some p) k e g = g p refl e
after_hundredths y f None k e g = absurd (f e)

-- a strike that was read is that of its text, as the reader counts it
pub record Struck (s : List ℕ) (at h : ℕ) : Type 0 where
  pub strike : ℕ
  pub count : h ≡ counted strike
  pub text : drop at s ≡ strike_text strike

pub strike_text_lem : (s : List ℕ) (at h : ℕ) → strike_at s at ≡ Some h → Struck s at h
unfolding strike_at
strike_text_lem s at h e =
    after_numeral None (Some h) (none-some _) (numeral_at s at) _ e (λ u i p q.
    after_hundredths (Some h) (none-some _) (hundredths_at s i) _ q (λ f a b.
    let t = hundredths_text_lem s i f a in
    let z : counted (u * 100 + f) ≡ h = cc in
    record {
      strike = u * 100 + f;
      count = sym z;
      text = numeral_text s at u i p ∙ rw (t.1, units_of u f t.0, part_of u f t.0);
    }))

hundredths_no_digit : (f : ℕ) → NoDigit (hundredths_text f)
unfolding hundredths_text digit_of choose
hundredths_no_digit f = by_test (eqb f 0)
  where
    by_test : (t : Bool) → NoDigit (choose t [] (46 ∷ digit_byte (f / 10) ∷ choose (eqb (f % 10) 0) [] (digit_byte (f % 10) ∷ [])))
    by_test true = end_no_digit
    by_test false = byte_no_digit 46 _ (omega arith)

pub strike_read : (s : List ℕ) (at strike : ℕ) → drop at s ≡ strike_text strike → strike_at s at ≡ Some (counted strike)
unfolding strike_at on_numeral on_hundredths
strike_read s at strike e =
    let u = strike / 100 in
    let i = at + length (decimal u) in
    let rest = after_text s at (decimal u) (hundredths_text (strike % 100)) e in
    let room : i ≤ length s = omega (arith, ends s at (decimal u) (hundredths_text (strike % 100)) e (length_some u)) in
    let z : u * 100 + strike % 100 ≡ strike = omega arith in
    rw (
      numeral_read s at u (hundredths_text (strike % 100)) (hundredths_no_digit (strike % 100)) e,
      hundredths_read s i (strike % 100) room (omega arith) rest,
      z,
    )

-- no strike begins with a blank, 32
pub strike_no_blank : (s : List ℕ) (at strike : ℕ) → drop at s ≡ strike_text strike → byte_at s at 32 ≡ None
unfolding numeral_on digit_of choose
strike_no_blank s at strike e = by_byte (byte_at s at 32) refl
  where
    by_byte : (m : Option ℕ) → byte_at s at 32 ≡ m → m ≡ None
    by_byte None p = refl
    by_byte (Some n) p =
        let none : numeral_at s at ≡ None = ap (numeral_on at) (byte_text s at 32 n p) in
        let some = numeral_read s at (strike / 100) (hundredths_text (strike % 100)) (hundredths_no_digit (strike % 100)) e in
        absurd (none-some _ (sym none ∙ some))

-- ---- steps of the reader, which reads the units up to the least that no strike has
module _ (s : List ℕ) (at : ℕ) (r : Option (ℕ × ℕ)) (p : r ≡ capped too_many_units (numeral_at s at)) where
  pub strike_none : r ≡ None → None ≡ strike_at s at
  unfolding strike_at
  strike_none q = capped_none None _ too_many_units r (numeral_at s at) p None q refl

  pub units_room : (u i : ℕ) → r ≡ Some (u, i) → Fits w64 (u * 100)
  units_room u i q = omega (arith, capped_most {A = ℕ} 0 (λ v n. 0) too_many_units r (numeral_at s at) p u i q)

  module _ (u i : ℕ) (q : r ≡ Some (u, i)) (m : Option ℕ) (a : m ≡ hundredths_at s i) where
    strike_by : (y : Option ℕ) →
        y ≡ on_hundredths (hundredths_at s i) None (λ f. Some (counted (u * 100 + f))) →
        y ≡ strike_at s at
    unfolding strike_at on_hundredths
    strike_by y e = capped_value None _ too_many_units r (numeral_at s at) p y u i q e (λ w. same w (hundredths_at s i) refl)
      where
        same : (w : ℕ) (x : Option ℕ) →
            hundredths_at s i ≡ x →
            on_hundredths x None (λ f. Some (counted (min w too_many_units * 100 + f)))
            ≡ on_hundredths x None (λ f. Some (counted (w * 100 + f)))
        same w (Some f) g =
            let below : f < 100 = (hundredths_text_lem s i f g).0 in
            let z : counted (min w too_many_units * 100 + f) ≡ counted (w * 100 + f) = omega arith in
            ap Some z
        same w None g = refl

    pub strike_broken : m ≡ None → None ≡ strike_at s at
    unfolding on_hundredths
    strike_broken b = strike_by None (rw (← a, b))

    module _ (f : ℕ) (b : m ≡ Some f) where
      pub strike_found : Some (u * 100 + f) ≡ strike_at s at
      unfolding on_hundredths
      strike_found =
          let below : f < 100 = (hundredths_text_lem s i f (sym a ∙ b)).0 in
          let most : u ≤ too_many_units = capped_most {A = ℕ} 0 (λ v n. 0) too_many_units r (numeral_at s at) p u i q in
          let z : u * 100 + f ≡ counted (u * 100 + f) = omega arith in
          strike_by (Some (u * 100 + f)) (rw (← a, b) (ap Some z))

      pub strike_room : Fits w64 (u * 100 + f)
      strike_room =
          let below : f < 100 = (hundredths_text_lem s i f (sym a ∙ b)).0 in
          omega (arith, capped_most {A = ℕ} 0 (λ v n. 0) too_many_units r (numeral_at s at) p u i q)

-- ---- steps of the writer: no hundredths, one digit of them, two digits
pub put_none : (l : List ℕ) (at f : ℕ) → f ≡ 0 → Put l at (hundredths_text f) l at
unfolding hundredths_text choose
put_none l at f e = rw e (record { place = omega arith; bytes = refl })

module _ (f : ℕ) (n : f ≡ 0 → ⊥) where
  pub length_one : 2 ≤ length (hundredths_text f)
  unfolding hundredths_text choose
  length_one = rw (ne_eqb f 0 n) (omega arith)

  pub put_one : (l m k : List ℕ) (at p q : ℕ) →
      f % 10 ≡ 0 →
      Put l at (46 ∷ []) m p →
      Put m p (digit_byte (f / 10) ∷ []) k q →
      Put l at (hundredths_text f) k q
  unfolding hundredths_text choose
  put_one l m k at p q z a b = rw (ne_eqb f 0 n, z) (then l m k at p q (46 ∷ []) _ a b)

  module _ (z : f % 10 ≡ 0 → ⊥) where
    pub length_two : 3 ≤ length (hundredths_text f)
    unfolding hundredths_text choose
    length_two = rw (ne_eqb f 0 n, ne_eqb (f % 10) 0 z) (omega arith)

    pub put_two : (l m k j : List ℕ) (at p q r : ℕ) →
        Put l at (46 ∷ []) m p →
        Put m p (digit_byte (f / 10) ∷ []) k q →
        Put k q (digit_byte (f % 10) ∷ []) j r →
        Put l at (hundredths_text f) j r
    unfolding hundredths_text choose
    put_two l m k j at p q r a b c =
        rw (ne_eqb f 0 n, ne_eqb (f % 10) 0 z) (then l m j at p r (46 ∷ []) _ a (then m k j p q r (_ ∷ []) _ b c))

-- ---- how long a strike is
pub length_strike : (h : ℕ) → length (strike_text h) ≡ length (decimal (h / 100)) + length (hundredths_text (h % 100))
length_strike h = length-append (decimal (h / 100)) (hundredths_text (h % 100))

-- a strike within its bounds is not longer than the longest
hundredths_length : (f : ℕ) → length (hundredths_text f) ≤ 3
unfolding hundredths_text choose
hundredths_length f = by_test (eqb f 0) (eqb (f % 10) 0)
  where
    by_test : (t u : Bool) → length (choose t [] (46 ∷ digit_byte (f / 10) ∷ choose u [] (digit_byte (f % 10) ∷ []))) ≤ 3
    by_test true u = omega arith
    by_test false true = omega arith
    by_test false false = omega arith

pub strike_length : (h : ℕ) → h ≤ max_strike → length (strike_text h) ≤ max_strike_text
unfolding hundredths_text choose
strike_length h g = by_test (eqb (h % 100) 0) refl
  where
    by_test : (t : Bool) → eqb (h % 100) 0 ≡ t → length (strike_text h) ≤ max_strike_text
    by_test true e =
        let z : length (hundredths_text (h % 100)) ≡ 0 = rw e in
        omega (arith, length_strike h, length_below 5 (h / 100) (omega arith))
    by_test false e =
        let z : h / 100 < 100000 = omega (arith, eqb-false (h % 100) 0 e) in
        omega (arith, length_strike h, length_below 4 (h / 100) z, hundredths_length (h % 100))
