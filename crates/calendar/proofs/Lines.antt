-- The lines of a calendar and what is read from them: each is the other's inverse.
use Prim.Native.Nat.{ℕ, zero, suc, ◌+◌, ◌*◌, ◌≤◌, ◌<◌}
use mathlib.Core.Path.{◌≡◌, refl, sym, ap, ◌∙◌}
use mathlib.Core.Bool.{Bool, true, false}
use mathlib.Core.Logic.{◌⊎◌, ⊎_elim, inl, inr}
use mathlib.Core.List.{List, [], ◌∷◌, ◌++◌, append-nil}
use native.Mathlib.Omega.{arith}
use lib.ListN.{length, drop, length-drop, drop_of_length-le}
use lib.Dec.{leb, ltb, eqb}
use borrow.Author.Tests.{le-leb, lt-leb, lt-ltb, eq-eqb, ne_eqb, ltb-true, leb-true, eqb-true}
use Rattle.std.specs.Prelude.{Some, None, Err}
use Rattle.choice.specs.Choice.{choose}
use Rattle.decimal.specs.Scan.{on_scanned, byte_at}
use Rattle.decimal.proofs.Choices.{held}
use Rattle.decimal.proofs.Places.{here_next, here_in}
use Rattle.contract.specs.Code.{on_verdict}
use Rattle.contract.specs.Date.{CalendarDate, TwoDigitsEach, date_text, is_date, date_verdict, date_at, on_date}
use Rattle.contract.specs.declared.types.Date.{Date}
use Rattle.contract.specs.declared.types.Refusal.TheVariants.{NoDate}
use Rattle.contract.proofs.DateField.{date_is, date_in, date_read, date_text_lem, date_accepted, after_date, after_date_text}
use Rattle.contract.proofs.Scanning.{after_scanned, byte_read, byte_text}
use Rattle.calendar.specs.Days.{number_of, EachDate}
use Rattle.calendar.specs.Text.{crlf, lines_text, Calendar, trading, broken, line_end, line_at, onto, lines_from}
use Rattle.decimal.proofs.Choices.{same_value}
use Rattle.decimal.proofs.Choices.{same_next}
use Rattle.std.proofs.lemmas.Option.{none-some}
use Rattle.contract.specs.Verdict.{passed}

-- ---- the ends of a line
pub data LineEnd (end : List ℕ) : Type 0 where
  crlf_end : end ≡ crlf → LineEnd end
  no_end : end ≡ [] → LineEnd end

-- what stands at the end of a line that is read, and what is left of the bytes
pub record Ended (s : List ℕ) (at n : ℕ) : Type 0 where
  pub end : List ℕ
  pub is_end : LineEnd end
  pub text : drop at s ≡ end ++ drop n s
  -- bytes are left only behind CRLF
  pub more : (end ≡ crlf) ⊎ (n ≡ length s)

end_text : (s : List ℕ) (at n : ℕ) → line_end s at ≡ Some n → Ended s at n
unfolding line_end choose
end_text s at n e = by_test (eqb at (length s)) refl e
  where
    by_test : (t : Bool) →
        eqb at (length s) ≡ t →
        choose t (Some at) (on_scanned (byte_at s at 13) None (λ n. byte_at s n 10)) ≡ Some n →
        Ended s at n
    by_test true q p =
        let z : at ≡ n = cc in
        record { end = []; is_end = no_end refl; text = rw z; more = inr (sym z ∙ eqb-true at (length s) q) }
    by_test false q p =
        after_scanned None (Some n) (none-some _) (byte_at s at 13) _ p (λ m a b.
        record {
          end = crlf;
          is_end = crlf_end refl;
          text = byte_text s at 13 m a ∙ ap (λ (l : List ℕ). 13 ∷ l) (byte_text s m 10 n b);
          more = inl refl;
        })

end_crlf : (s : List ℕ) (at : ℕ) (l : List ℕ) → drop at s ≡ 13 ∷ 10 ∷ l → line_end s at ≡ Some (at + 1 + 1)
unfolding line_end on_scanned choose
end_crlf s at l e =
    rw (
      ne_eqb at (length s) (λ z. omega (arith, here_in s at 13 (10 ∷ l) e)),
      byte_read s at 13 (10 ∷ l) e,
      byte_read s (at + 1) 10 l (here_next s at 13 (10 ∷ l) e),
    )

end_none : (s : List ℕ) (at : ℕ) → at ≡ length s → line_end s at ≡ Some at
unfolding line_end choose
end_none s at e = rw (eq-eqb at (length s) e)

-- ---- a line
-- what followed a date that there is goes to the last argument
after_accepted : {A R : Type 0} (x y : A) → (x ≡ y → ⊥) → (d : Date) (fine : A) → on_verdict (date_verdict d) fine (λ r. x) ≡ y → (CalendarDate d → fine ≡ y → R) → R
unfolding date_verdict on_verdict choose
after_accepted {A} {R} x y f d fine e g = by_test (is_date d) refl e
  where
    by_test : (t : Bool) → is_date d ≡ t → on_verdict (choose t passed (Err NoDate)) fine (λ r. x) ≡ y → R
    by_test true q p = g (date_is d q) p
    by_test false q p = absurd (f p)

-- a date that is read, and what stands at its line's end
pub record LineText (s : List ℕ) (at : ℕ) (d : Date) (n : ℕ) : Type 0 where
  pub date : CalendarDate d × TwoDigitsEach d
  pub place : ℕ
  pub text : drop at s ≡ date_text d ++ drop place s
  pub ended : Ended s place n

pub line_text : (s : List ℕ) (at : ℕ) (d : Date) (n : ℕ) → line_at s at ≡ Some (d, n) → LineText s at d n
unfolding line_at
line_text s at d n e =
    after_date None (Some (d, n)) (none-some _) (date_at s at) _ e (λ x m p q.
    after_accepted None (Some (d, n)) (none-some _) x _ q (λ c q.
    after_scanned None (Some (d, n)) (none-some _) (line_end s m) _ q (λ k a b.
    let y : x ≡ d = same_value b in
    let z : k ≡ n = same_next b in
    let t = date_text_lem s at x m p in
    record {
      date = rw (← y) (c, t.0);
      place = m;
      text = rw (← y) t.1;
      ended = rw (← z) (end_text s m k a);
    })))

module _ (s : List ℕ) (at : ℕ) (d : Date) (c : CalendarDate d × TwoDigitsEach d) where
  line_ends : (l : List ℕ) (n : ℕ) → drop at s ≡ date_text d ++ l → line_end s (at + 2 + 2 + 2) ≡ Some n → line_at s at ≡ Some (d, n)
  unfolding line_at on_date on_verdict on_scanned
  line_ends l n e q = rw (date_read s at d l c.1 e, ← date_accepted d true (sym (date_in d c.0)) refl, q)

  line_crlf : (l : List ℕ) → drop at s ≡ date_text d ++ (crlf ++ l) → line_at s at ≡ Some (d, at + 2 + 2 + 2 + 1 + 1)
  line_crlf l e = line_ends (crlf ++ l) _ e (end_crlf s _ l (after_date_text s at d (crlf ++ l) e))

  line_last : drop at s ≡ date_text d ++ [] → line_at s at ≡ Some (d, at + 2 + 2 + 2)
  line_last e =
      line_ends [] _ e (end_none s _ (omega (arith, sym (length-drop at s) ∙ ap length e)))

-- ---- all lines from a place on
not_broken : (ds : List Date) → broken ≡ trading ds → ⊥
not_broken ds e = let z : ◌≡◌ {A = ℕ} 0 1 = cc in omega arith

-- the bytes are the lines of dates, the last with one of the ends
pub record Told (text : List ℕ) (ds : List Date) : Type 0 where
  pub end : List ℕ
  pub is_end : LineEnd end
  pub says : text ≡ lines_text end ds

-- the numbers of dates rise, the first above n: so the reader goes about it
abbrev pub RisingFrom : ℕ → List Date → Type 0
RisingFrom n [] = Unit {0}
RisingFrom n (d ∷ ds) = (n < number_of d) × RisingFrom (number_of d) ds

pub record Lines (room : ℕ) (text : List ℕ) (before : ℕ) (ds : List Date) : Type 0 where
  pub few : length ds ≤ room
  pub dates : EachDate ds
  pub rising : RisingFrom before ds
  pub told : Told text ds

no_lines : (room : ℕ) (s : List ℕ) (before at : ℕ) (ds : List Date) → length s ≤ at → trading [] ≡ trading ds → Lines room (drop at s) before ds
unfolding lines_text
no_lines room s before at ds h e =
    let z : [] ≡ ds = cc in
    rw (← z) (record { few = omega arith; dates = tt; rising = tt; told = record { end = []; is_end = no_end refl; says = drop_of_length-le s h } })

-- one line before others
one_more : (s : List ℕ) (at : ℕ) (d : Date) (n : ℕ) (ds : List Date) → LineText s at d n → Told (drop n s) ds → Told (drop at s) (d ∷ ds)
unfolding lines_text
one_more s at d n [] l r = record {
  end = l.ended.end;
  is_end = l.ended.is_end;
  says = l.text ∙ ap (λ (x : List ℕ). date_text d ++ x) (l.ended.text ∙ ap (λ (x : List ℕ). l.ended.end ++ x) r.says ∙ append-nil l.ended.end);
}
one_more s at d n (e ∷ es) l r = record {
  end = r.end;
  is_end = r.is_end;
  says = l.text ∙ ap (λ (x : List ℕ). date_text d ++ x) (l.ended.text ∙ ⊎_elim behind_crlf (λ z. absurd (none z)) l.ended.more);
}
  where
    lines_some : (es : List Date) → 1 ≤ length (lines_text r.end (e ∷ es))
    lines_some [] = omega arith
    lines_some (x ∷ es) = omega arith

    behind_crlf : l.ended.end ≡ crlf → l.ended.end ++ drop n s ≡ crlf ++ lines_text r.end (e ∷ es)
    behind_crlf c = ap (λ (x : List ℕ). x ++ drop n s) c ∙ ap (λ (x : List ℕ). crlf ++ x) r.says

    none : n ≡ length s → ⊥
    none z = omega (arith, lines_some es, sym (length-drop n s) ∙ ap length r.says)

onto_trading : (d : Date) (c : Calendar) (ds : List Date) {R : Type 0} → onto d c ≡ trading ds → ((es : List Date) → c ≡ trading es → d ∷ es ≡ ds → R) → R
unfolding onto
onto_trading d (trading es) ds e g = g es refl (cc)
onto_trading d broken ds e g = absurd (not_broken ds e)

pub lines_text_lem : (room : ℕ) (s : List ℕ) (before at : ℕ) (ds : List Date) → lines_from room s before at ≡ trading ds → Lines room (drop at s) before ds
unfolding lines_from choose
lines_text_lem zero s before at ds e =
    let h = held (leb (length s) at) (trading []) broken (trading ds) e (not_broken ds) in
    no_lines zero s before at ds (leb-true (length s) at h.0) h.1
lines_text_lem (suc room) s before at ds e = by_test (leb (length s) at) refl e (lines_text_lem room s)
  where
    by_test : (t : Bool) →
        leb (length s) at ≡ t →
        choose t (trading [])
        (on_date (line_at s at) broken (λ d n.
        choose (ltb before (number_of d)) (onto d (lines_from room s (number_of d) n)) broken))
        ≡ trading ds →
        ((number n : ℕ) (es : List Date) → lines_from room s number n ≡ trading es → Lines room (drop n s) number es) →
        Lines (suc room) (drop at s) before ds
    by_test true q p ih = no_lines (suc room) s before at ds (leb-true (length s) at q) p
    by_test false q p ih =
        after_date broken (trading ds) (not_broken ds) (line_at s at) _ p (λ d n a b.
        let h = held (ltb before (number_of d)) _ broken (trading ds) b (not_broken ds) in
        onto_trading d (lines_from room s (number_of d) n) ds h.1 (λ es f z.
        let r = ih (number_of d) n es f in
        let l = line_text s at d n a in
        rw (← z) (record {
          few = omega (arith, r.few);
          dates = (l.date, r.dates);
          rising = (ltb-true before (number_of d) h.0, r.rising);
          told = one_more s at d n es l r.told;
        })))

-- a line, and then the others
line_first : (room : ℕ) (s : List ℕ) (before at : ℕ) (d : Date) (n : ℕ) (ds : List Date) →
    line_at s at ≡ Some (d, n) →
    at < length s →
    before < number_of d →
    lines_from room s (number_of d) n ≡ trading ds →
    lines_from (suc room) s before at ≡ trading (d ∷ ds)
unfolding lines_from on_date onto choose
line_first room s before at d n ds p h f q = rw (lt-leb (length s) at h, p, lt-ltb before (number_of d) f, q)

-- lines that stand at a place are read
pub lines_read : (room : ℕ) (s : List ℕ) (before at : ℕ) (end : List ℕ) (ds : List Date) →
    LineEnd end →
    length ds ≤ room →
    EachDate ds →
    RisingFrom before ds →
    drop at s ≡ lines_text end ds →
    lines_from room s before at ≡ trading ds
unfolding lines_from lines_text on_date onto choose
lines_read zero s before at end [] k few dates rising e = rw (le-leb (length s) at (omega (arith, sym (length-drop at s) ∙ ap length e)))
lines_read (suc room) s before at end [] k few dates rising e =
    rw (le-leb (length s) at (omega (arith, sym (length-drop at s) ∙ ap length e)))
lines_read zero s before at end (d ∷ ds) k few dates rising e = absurd (omega arith)
lines_read (suc room) s before at end (d ∷ ds) k few dates rising e =
    by_lines ds k e refl (λ n q. lines_read room s (number_of d) n end ds k (omega arith) dates.1 rising.1 q)
  where
    by_lines : (es : List Date) →
        LineEnd end →
        drop at s ≡ lines_text end (d ∷ es) →
        ds ≡ es →
        ((n : ℕ) → drop n s ≡ lines_text end ds → lines_from room s (number_of d) n ≡ trading ds) →
        lines_from (suc room) s before at ≡ trading (d ∷ ds)
    by_lines [] (crlf_end z) e f ih =
        let t : drop at s ≡ date_text d ++ (crlf ++ []) = e ∙ ap (λ (x : List ℕ). date_text d ++ x) z in
        let u = after_date_text s at d (crlf ++ []) t in
        line_first room s before at d (at + 2 + 2 + 2 + 1 + 1) ds (line_crlf s at d dates.0 [] t) (omega (arith, sym (length-drop at s) ∙ ap length t)) rising.0
        (ih (at + 2 + 2 + 2 + 1 + 1) (rw f (here_next s (at + 2 + 2 + 2 + 1) 10 [] (here_next s (at + 2 + 2 + 2) 13 (10 ∷ []) u))))
    by_lines [] (no_end z) e f ih =
        let t : drop at s ≡ date_text d ++ [] = e ∙ ap (λ (x : List ℕ). date_text d ++ x) z in
        line_first room s before at d (at + 2 + 2 + 2) ds (line_last s at d dates.0 t) (omega (arith, sym (length-drop at s) ∙ ap length t)) rising.0
        (ih (at + 2 + 2 + 2) (rw f (after_date_text s at d [] t)))
    by_lines (x ∷ es) w e f ih =
        let l = lines_text end (x ∷ es) in
        let u = after_date_text s at d (crlf ++ l) e in
        line_first room s before at d (at + 2 + 2 + 2 + 1 + 1) ds (line_crlf s at d dates.0 l e) (omega (arith, sym (length-drop at s) ∙ ap length e)) rising.0
        (ih (at + 2 + 2 + 2 + 1 + 1) (rw f (here_next s (at + 2 + 2 + 2 + 1) 10 l (here_next s (at + 2 + 2 + 2) 13 (10 ∷ l) u))))

-- ---- how long the lines are
pub lines_length : (end : List ℕ) (ds : List Date) → LineEnd end → length (lines_text end ds) ≤ 8 * length ds
unfolding lines_text
lines_length end [] k = omega arith
lines_length end (d ∷ []) (crlf_end z) = rw z (omega arith)
lines_length end (d ∷ []) (no_end z) = rw z (omega arith)
lines_length end (d ∷ e ∷ ds) k = omega (arith, lines_length end (e ∷ ds) k)
