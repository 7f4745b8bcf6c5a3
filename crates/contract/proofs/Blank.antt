-- The promises on the blank before the strike (RULES, "Contract codes"), over all byte lists and all terms.
use Prim.Native.Nat.{ℕ, ◌+◌, ◌≤◌, ◌<◌}
use mathlib.Core.Path.{◌≡◌, refl, sym, ap, ◌∙◌}
use mathlib.Core.List.{List, ◌∷◌, ◌++◌}
use mathlib.Core.Logic.{⊎_elim}
use native.Mathlib.Nat.{add-zero}
use native.Mathlib.Omega.{arith}
use lib.ListN.{length, drop, take, get_or}
use lib.Seq.{drop_at, take_at, get_or-drop, length-take-le}
use Rattle.std.specs.Prelude.{Ok, Result}
use Rattle.terms.specs.Refusals as no
use Rattle.decimal.proofs.Each.{each_at}
use Rattle.contract.specs.Future.{FutureCode}
use Rattle.contract.specs.Style.{style_text}
use Rattle.contract.specs.Strike.{strike_text}
use Rattle.contract.specs.Code.{code_text, Says, read_code, future_of}
use Rattle.contract.specs.Promises.{answer, CodeOfTerms, in_style, behind_category, CodeByte}
use Rattle.contract.specs.declared.types.Style.{Style}
use Rattle.contract.specs.declared.types.Style.TheVariants.{Blank, NoBlank}
use Rattle.contract.specs.declared.types.Terms.{Terms}
use Rattle.contract.proofs.Bytes.{head, code_split, head_behind, blank_place, behind_blank, ByteOfCode, code_bytes}
use Rattle.contract.proofs.Promises.{reader_refuses_layout, reader_accepts, read_is, future_is}
use Rattle.decimal.proofs.Choices.{same_ok}
use Rattle.contract.specs.Code.{coded}
use Rattle.contract.specs.declared.types.Code.{Code}
use Rattle.contract.specs.declared.types.Refusal.{Refusal}

-- ---- both styles are read
pub read_in_both_styles : (s f : List ℕ) (t : Terms) (z : Style) →
    CodeOfTerms s f t →
    (read_code (code_text f (in_style z t)) ≡ Ok (coded (length f) (in_style z t))) × (future_of (code_text f (in_style z t)) ≡ f)
read_in_both_styles s f t z c =
    (reader_accepts (code_text f (in_style z t)) f (in_style z t)).1
    (record {
      says = record { code = c.says.code; digits = c.says.digits; text = refl };
      dated = c.dated;
      some = c.some;
      most = c.most;
    })

-- ---- a blank is taken in one place alone: behind the category letter, with the strike behind it
pub blank_before_strike : (s f : List ℕ) (t : Terms) (i : ℕ) →
    Says s f t →
    get_or s i 0 ≡ 32 →
    (t.style ≡ Blank) × ((i ≡ behind_category f) × (i + 1 < length s))
blank_before_strike s f t i c e =
    let p = blank_place s f t i c e in
    (p.0, (p.1, omega (arith, p.1, behind_blank s f t c p.0)))

-- so a blank anywhere else is 17
pub blank_elsewhere_refused : (s : List ℕ) (i : ℕ) →
    get_or s i 0 ≡ 32 →
    ((f : List ℕ) → FutureCode f → take (length f) s ≡ f → i ≡ behind_category f → ⊥) →
    answer (read_code s) ≡ no.code
blank_elsewhere_refused s i e elsewhere =
    (reader_refuses_layout s).1 (λ f t c.
    let front : take (length f) s ≡ f = ap (λ (l : List ℕ). take (length f) l) c.text ∙ take_at f _ (length f) refl in
    elsewhere f c.code front (blank_place s f t i c e).1)

-- a blank that ends the code is 17
pub blank_at_the_end_refused : (s : List ℕ) (i : ℕ) → get_or s i 0 ≡ 32 → length s ≤ i + 1 → answer (read_code s) ≡ no.code
blank_at_the_end_refused s i e h =
    (reader_refuses_layout s).1 (λ f t c. let p = blank_before_strike s f t i c e in omega (arith, p.1.1))

-- more than one blank is 17
pub more_blanks_refused : (s : List ℕ) (i j : ℕ) →
    get_or s i 0 ≡ 32 →
    get_or s j 0 ≡ 32 →
    (i ≡ j → ⊥) →
    answer (read_code s) ≡ no.code
more_blanks_refused s i j p q apart =
    (reader_refuses_layout s).1 (λ f t c. apart ((blank_place s f t i c p).1 ∙ sym (blank_place s f t j c q).1))

-- every byte that is no capital, digit, hyphen, point or blank is 17: another white byte, a lower letter
pub other_bytes_refused : (s : List ℕ) (i : ℕ) →
    i < length s →
    (CodeByte (get_or s i 0) → ⊥) →
    (get_or s i 0 ≡ 32 → ⊥) →
    answer (read_code s) ≡ no.code
other_bytes_refused s i h other blank =
    (reader_refuses_layout s).1 (λ f t c. ⊎_elim other blank (each_at ByteOfCode s (code_bytes s f t c) i h))

-- ---- codes that differ only in the blank

code_of : (s : List ℕ) (n : ℕ) (t : Terms) → read_code s ≡ Ok (coded n t) → CodeOfTerms s (take n s) t
code_of s n t e =
    let len : length (take n s) ≡ n = length-take-le n s (read_is s n t e).within in
    (reader_accepts s (take n s) t).0 (e ∙ ap (λ (k : ℕ). Ok (coded k t)) (sym len), future_is s n t e)

-- without its blank a code is the code of the same terms in the other style
pub blank_taken_out : (x y : List ℕ) (n : ℕ) (t : Terms) →
    read_code (x ++ 32 ∷ y) ≡ Ok (coded n t) →
    (t.style ≡ Blank)
    × ((read_code (x ++ y) ≡ Ok (coded n (in_style NoBlank t))) × (future_of (x ++ y) ≡ future_of (x ++ 32 ∷ y)))
unfolding style_text
blank_taken_out x y n t e =
    let s = x ++ 32 ∷ y in
    let f = take n s in
    let c = code_of s n t e in
    let len : length f ≡ n = length-take-le n s (read_is s n t e).within in
    let rest : drop (length x) s ≡ 32 ∷ y = drop_at x (32 ∷ y) (length x) refl in
    let here : get_or s (length x) 0 ≡ 32 =
    ap (λ (k : ℕ). get_or s k 0) (sym (add-zero (length x))) ∙ sym (get_or-drop (length x) s 0 0) ∙ ap (λ (l : List ℕ). get_or l 0 0) rest
    in
    let place = blank_place s f t (length x) c.says here in
    let split : s ≡ head f t ++ (32 ∷ strike_text t.strike) =
    c.says.text ∙ code_split f t ∙ rw place.0
    in
    let long : length x ≡ length (head f t) = place.1 ∙ sym (head_behind f t) in
    let first : x ≡ head f t =
    sym (take_at x (32 ∷ y) (length x) refl)
    ∙ ap (λ (l : List ℕ). take (length x) l) split
    ∙ take_at (head f t) (32 ∷ strike_text t.strike) (length x) (sym long)
    in
    let last : y ≡ strike_text t.strike =
    ap (λ (l : List ℕ). drop 1 l)
    (sym rest ∙ ap (λ (l : List ℕ). drop (length x) l) split ∙ drop_at (head f t) (32 ∷ strike_text t.strike) (length x) (sym long))
    in
    let text : x ++ y ≡ code_text f (in_style NoBlank t) =
    ap (λ (l : List ℕ). l ++ y) first
    ∙ ap (λ (l : List ℕ). head f t ++ l) last
    ∙ sym (code_split f (in_style NoBlank t))
    in
    let other = read_in_both_styles s f t NoBlank c in (
      place.0,
      (
        ap read_code text ∙ other.0 ∙ ap (λ (k : ℕ). Ok (coded k (in_style NoBlank t))) len,
        ap future_of text ∙ other.1 ∙ sym (future_is s n t e),
      ),
    )

-- they have unlike terms
pub unlike_terms : (x y : List ℕ) (n m : ℕ) (t u : Terms) →
    read_code (x ++ 32 ∷ y) ≡ Ok (coded n t) →
    read_code (x ++ y) ≡ Ok (coded m u) →
    t ≡ u →
    ⊥
unlike_terms x y n m t u p q e =
    let out = blank_taken_out x y n t p in
    let same : ◌≡◌ {A = Result Code Refusal} (Ok (coded n (in_style NoBlank t))) (Ok (coded m u)) = sym out.1.0 ∙ q in
    let alike : in_style NoBlank t ≡ u = ap (λ (c : Code). c.terms) (same_ok _ _ same) in
    let both : Blank ≡ NoBlank = sym out.0 ∙ ap (λ (z : Terms). z.style) (e ∙ sym alike) in
    let z : ◌≡◌ {A = ℕ} 0 1 = cc in
    omega arith
