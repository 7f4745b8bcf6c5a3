-- The whole layout: text and reading as each other's inverse, and the steps of the reader above it.
use Prim.Native.Nat.{ℕ, ◌+◌, ◌≤◌}
use mathlib.Core.Path.{◌≡◌, refl, sym, ap, subst, ◌∙◌}
use mathlib.Core.List.{List, ◌∷◌, ◌++◌}
use lib.ListN.{length, drop, take, take-append-drop}
use lib.Seq.{drop_at, length-take-le}
use Rattle.std.proofs.lemmas.Option.{none-some, same_Some}
use Rattle.std.specs.Prelude.{Option, Some, None, Result, Ok, Err}
use Rattle.decimal.proofs.Places.{here_next, after_text}
use Rattle.decimal.specs.Scan.{on_scanned, byte_at}
use Rattle.contract.specs.Future.{future_at}
use Rattle.contract.specs.Date.{date_text, date_at, on_date}
use Rattle.contract.specs.Kind.{kind_text, kind_at, on_kind}
use Rattle.contract.specs.Style.{style_text, style_at, on_style}
use Rattle.contract.specs.Strike.{strike_text, counted, strike_at, on_strike}
use Rattle.contract.specs.Code.{code_text, Says, layout_at, on_layout, verdict_of, on_verdict, read_code, on_read}
use Rattle.contract.specs.declared.types.Terms.{Terms}
use Rattle.contract.specs.declared.types.Refusal.{Refusal}
use Rattle.contract.specs.declared.types.Refusal.TheVariants.{Layout}
use Rattle.contract.specs.Verdict.{Verdict, passed}
use Rattle.contract.proofs.Scanning.{after_scanned, byte_read, byte_text}
use Rattle.contract.proofs.FutureField.{future_read, future_text_lem}
use Rattle.contract.proofs.DateField.{after_date, date_read, after_date_text, date_text_lem}
use Rattle.contract.proofs.KindField.{after_kind, kind_read, kind_text_lem}
use Rattle.contract.proofs.StyleField.{after_style, style_read, style_text_lem}
use Rattle.contract.proofs.StrikeField.{after_strike, strike_read, strike_text_lem}
use Rattle.decimal.proofs.Choices.{same_ok}
use Rattle.decimal.proofs.Choices.{err_ok}
use Rattle.contract.specs.Code.{coded}
use Rattle.contract.specs.declared.types.Code.{Code}

-- ---- the layout

-- terms as the reader counts them: it tells no strikes apart that are far above the bound
abbrev pub counted_terms : Terms → Terms
counted_terms t =
    record { date = t.date; option = t.option; category = t.category; style = t.style; strike = counted t.strike }

-- a text that says terms is read as them
pub layout_read : (s f : List ℕ) (t : Terms) → Says s f t → layout_at s ≡ Some (coded (length f) (counted_terms t))
unfolding layout_at on_scanned on_date on_kind on_style on_strike
layout_read s f t c =
    let n = length f in
    let last = style_text t.style ++ strike_text t.strike in
    let tail = kind_text t.option t.category ++ last in
    let e0 : drop n s ≡ 77 ∷ (date_text t.date ++ tail) =
    ap (λ (x : List ℕ). drop n x) c.text ∙ drop_at f _ n refl
    in
    let e1 : drop (n + 1) s ≡ date_text t.date ++ tail = here_next s n 77 _ e0 in
    let e2 : drop (n + 1 + 2 + 2 + 2) s ≡ tail = after_date_text s (n + 1) t.date tail e1 in
    let at = n + 1 + 2 + 2 + 2 in
    let e3 : drop (at + 1 + 1) s ≡ last = here_next s (at + 1) _ _ (here_next s at _ _ e2) in
    let e4 = after_text s (at + 1 + 1) (style_text t.style) (strike_text t.strike) e3 in
    rw (
      future_read s f _ c.code c.text,
      byte_read s n 77 _ e0,
      date_read s (n + 1) t.date tail c.digits e1,
      kind_read s at t.option t.category last e2,
      style_read s (at + 1 + 1) t.style t.strike e3,
      strike_read s (at + 1 + 1 + length (style_text t.style)) t.strike e4,
    )

-- what was read is said by the text
pub record Told (s : List ℕ) (n : ℕ) (x : Terms) : Type 0 where
  pub terms : Terms
  pub says : Says s (take n s) terms
  pub count : x ≡ counted_terms terms
  pub within : n ≤ length s

pub layout_text : (s : List ℕ) (n : ℕ) (x : Terms) → layout_at s ≡ Some (coded n x) → Told s n x
unfolding layout_at
layout_text s n x e =
    after_scanned None (Some (coded n x)) (none-some _) (future_at s) _ e (λ k pk ek.
    after_scanned None (Some (coded n x)) (none-some _) (byte_at s k 77) _ ek (λ a pa ea.
    after_date None (Some (coded n x)) (none-some _) (date_at s a) _ ea (λ d b pb eb.
    after_kind None (Some (coded n x)) (none-some _) (kind_at s b) _ eb (λ o g c pc ec.
    after_style None (Some (coded n x)) (none-some _) (style_at s c) _ ec (λ w i pi ei.
    after_strike None (Some (coded n x)) (none-some _) (strike_at s i) _ ei (λ h ph eh.
    let same = same_Some _ _ eh in
    let y : k ≡ n = ap (λ (c : Code). c.future) same in
    let z : ◌≡◌ {A = Terms} (record { date = d; option = o; category = g; style = w; strike = h }) x = ap (λ (c : Code). c.terms) same in
    let lead = future_text_lem s k pk in
    let dates = date_text_lem s a d b pb in
    let st = strike_text_lem s i h ph in
    let t : Terms = record { date = d; option = o; category = g; style = w; strike = st.strike } in
    let whole : s ≡ code_text (take k s) t =
    sym (take-append-drop k s)
    ∙ ap (λ (l : List ℕ). take k s ++ l)
    (byte_text s k 77 a pa
    ∙ ap (λ (l : List ℕ). 77 ∷ l)
    (dates.1
    ∙ ap (λ (l : List ℕ). date_text d ++ l)
    (kind_text_lem s b o g c pc
    ∙ ap (λ (l : List ℕ). kind_text o g ++ l) (style_text_lem s c w i pi ∙ ap (λ (l : List ℕ). style_text w ++ l) st.text))))
    in
    subst (λ (i : ℕ). Told s i x) y
    (record {
      terms = t;
      says =
          record {
            code = lead.code;
            digits = dates.0;
            text = whole;
          };
      count = sym z ∙ ap (λ (i : ℕ). record { date = d; option = o; category = g; style = w; strike = i }) st.count;
      within = lead.within;
    })))))))

-- ---- what follows the layout, the verdict and the reading, by what was answered
module _ {A : Type 0} (x : A) (k : ℕ → Terms → A) (r m : Option Code) where
  pub laid : (y : A) (c : Code) → r ≡ m → r ≡ Some c → y ≡ k c.future c.terms → y ≡ on_layout m x k
  unfolding on_layout
  laid y c p q e = rw (← p, q) e

  pub not_laid : (y : A) → r ≡ m → r ≡ None → y ≡ x → y ≡ on_layout m x k
  unfolding on_layout
  not_laid y p q e = rw (← p, q) e

module _ {A : Type 0} (x : A) (k : Refusal → A) (r m : Verdict) where
  pub is_accepted : (y : A) (u : Unit {0}) → r ≡ m → r ≡ Ok u → y ≡ x → y ≡ on_verdict m x k
  unfolding on_verdict
  is_accepted y u p q e = rw (← p, q) e

  pub is_refused : (y : A) (w : Refusal) → r ≡ m → r ≡ Err w → y ≡ k w → y ≡ on_verdict m x k
  unfolding on_verdict
  is_refused y w p q e = rw (← p, q) e

module _ {A : Type 0} (x : A) (k : ℕ → Terms → A) (r m : Result Code Refusal) where
  pub is_code : (y : A) (c : Code) → r ≡ m → r ≡ Ok c → y ≡ k c.future c.terms → y ≡ on_read m x k
  unfolding on_read
  is_code y c p q e = rw (← p, q) e

  pub no_code : (y : A) (w : Refusal) → r ≡ m → r ≡ Err w → y ≡ x → y ≡ on_read m x k
  unfolding on_read
  no_code y w p q e = rw (← p, q) e

pub ruleset answers = (laid, not_laid, is_accepted, is_refused, is_code, no_code)

-- ---- a code that was read has the layout, and its terms pass
pub record Passed (s : List ℕ) (n : ℕ) (t : Terms) : Type 0 where
  pub layout : layout_at s ≡ Some (coded n t)
  pub verdict : verdict_of t ≡ passed

pub code_passed : (s : List ℕ) (n : ℕ) (t : Terms) → read_code s ≡ Ok (coded n t) → Passed s n t
unfolding read_code on_layout on_verdict
code_passed s n t e = by_layout (layout_at s) refl e
  where
    by_verdict_lem : (m : ℕ) (x : Terms) →
        layout_at s ≡ Some (coded m x) →
        (v : Verdict) →
        verdict_of x ≡ v →
        on_verdict v (Ok (coded m x)) (λ r. Err r) ≡ Ok (coded n t) →
        Passed s n t
    by_verdict_lem m x p (Ok u) q e =
        let same = same_ok _ _ e in
        let y : m ≡ n = ap (λ (c : Code). c.future) same in
        let z : x ≡ t = ap (λ (c : Code). c.terms) same in
        record { layout = p ∙ rw (y, z); verdict = rw (← z) q }
    by_verdict_lem m x p (Err w) q e = absurd (err_ok _ _ e)

    by_layout : (m : Option Code) →
        layout_at s ≡ m →
        on_layout m (Err Layout) (λ n terms. on_verdict (verdict_of terms) (Ok (coded n terms)) (λ r. Err r)) ≡ Ok (coded n t) →
        Passed s n t
    by_layout (Some c) p e = by_verdict_lem c.future c.terms p (verdict_of c.terms) refl e
    by_layout None p e = absurd (err_ok _ _ e)

-- the futures code is a part of the bytes
pub part_length : (s : List ℕ) (n : ℕ) (t : Terms) (r : Result Code Refusal) → r ≡ read_code s → r ≡ Ok (coded n t) → n ≡ length (take n s)
part_length s n t r p q =
    sym (length-take-le n s (layout_text s n t (code_passed s n t (sym p ∙ q)).layout).within)
