-- The day of a date: the place at which it stands in a list, and that a rising list has each date at one place.
use Prim.Native.Nat.{ℕ, zero, suc, ◌+◌, ◌≤◌}
use mathlib.Core.Path.{◌≡◌, refl, sym, ap, ◌∙◌}
use mathlib.Core.Bool.{Bool, true, false}
use mathlib.Core.Logic.{inl, inr}
use mathlib.Core.List.{List, [], ◌∷◌}
use native.Mathlib.Nat.{add-zero}
use native.Mathlib.Omega.{arith}
use lib.Dec.{eqb}
use borrow.Author.Tests.{eq-eqb, eqb-true}
use Rattle.std.specs.Prelude.{Some, None}
use Rattle.choice.specs.Choice.{choose}
use Rattle.decimal.proofs.Choices.{held}
use Rattle.contract.specs.declared.types.Date.{Date}
use Rattle.calendar.specs.Days.{same_date, day_from, EarlierInYear, Earlier, Rising, Stands}
use Rattle.std.proofs.lemmas.Option.{none-some}

false_true : false ≡ true → ⊥
false_true e = let z : ◌≡◌ {A = ℕ} 0 1 = cc in omega arith

-- ---- the same date
abbrev date_by : ℕ → ℕ → ℕ → Date
date_by day month year = record { day = day; month = month; year = year }

pub date_by_lem : (d e : Date) → d.day ≡ e.day → d.month ≡ e.month → d.year ≡ e.year → d ≡ e
date_by_lem d e p q r =
    ap (λ (x : ℕ). date_by x d.month d.year) p
    ∙ ap (λ (x : ℕ). date_by e.day x d.year) q
    ∙ ap (λ (x : ℕ). date_by e.day e.month x) r

pub same_is : (d e : Date) → same_date d e ≡ true → d ≡ e
unfolding same_date
same_is d e p =
    let a = held (eqb d.day e.day) _ false true p false_true in
    let b = held (eqb d.month e.month) _ false true a.1 false_true in
    date_by_lem d e (eqb-true _ _ a.0) (eqb-true _ _ b.0) (eqb-true _ _ b.1)

pub is_same : (d e : Date) → d ≡ e → same_date d e ≡ true
unfolding same_date choose
is_same d e p =
    rw (
      eq-eqb d.day e.day (ap (λ (x : Date). x.day) p),
      eq-eqb d.month e.month (ap (λ (x : Date). x.month) p),
      eq-eqb d.year e.year (ap (λ (x : Date). x.year) p),
    )

-- ---- a day that was found is the first place at which the date stands
pub record Placed (ds : List Date) (i : ℕ) (d : Date) (day : ℕ) : Type 0 where
  pub place : ℕ
  pub day_is : day ≡ i + place
  pub stands : Stands ds place d
  pub first : (m : ℕ) → Stands ds m d → place ≤ m

pub placed : (i : ℕ) (ds : List Date) (d : Date) (day : ℕ) → day_from i ds d ≡ Some day → Placed ds i d day
unfolding day_from choose
placed i [] d day p = absurd (none-some _ p)
placed i (e ∷ es) d day p = by_test (same_date e d) refl p (placed (i + 1) es d day)
  where
    by_test : (t : Bool) →
        same_date e d ≡ t →
        choose t (Some i) (day_from (i + 1) es d) ≡ Some day →
        (day_from (i + 1) es d ≡ Some day → Placed es (i + 1) d day) →
        Placed (e ∷ es) i d day
    by_test true q p ih =
        let z : i ≡ day = cc in
        record { place = 0; day_is = omega arith; stands = same_is e d q; first = λ m s. omega arith }
    by_test false q p ih =
        let h = ih p in
        record { place = suc h.place; day_is = omega (arith, h.day_is); stands = h.stands; first = λ m s. later m s }
      where
        later : (m : ℕ) → Stands (e ∷ es) m d → suc (ih p).place ≤ m
        later zero s = absurd (false_true (sym q ∙ is_same e d s))
        later (suc m) s = omega (arith, (ih p).first m s)

-- ---- and the other way round
pub day_at : (i : ℕ) (ds : List Date) (d : Date) (place : ℕ) →
    Stands ds place d →
    ((m : ℕ) → Stands ds m d → place ≤ m) →
    day_from i ds d ≡ Some (i + place)
unfolding day_from choose
day_at i [] d place s first = absurd s
day_at i (e ∷ es) d zero s first = rw (is_same e d s, add-zero i)
day_at i (e ∷ es) d (suc place) s first = by_test (same_date e d) refl (day_at (i + 1) es d place s earlier)
  where
    earlier : (m : ℕ) → Stands es m d → place ≤ m
    earlier m t = omega (arith, first (suc m) t)

    by_test : (t : Bool) → same_date e d ≡ t → day_from (i + 1) es d ≡ Some (i + 1 + place) → choose t (Some i) (day_from (i + 1) es d) ≡ Some (i + suc place)
    by_test true q ih = absurd (let h = first 0 (same_is e d q) in omega arith)
    by_test false q ih =
        let z : i + 1 + place ≡ i + suc place = omega arith in
        ih ∙ ap Some z

pub none_at : (i : ℕ) (ds : List Date) (d : Date) → ((m : ℕ) → Stands ds m d → ⊥) → day_from i ds d ≡ None
unfolding day_from choose
none_at i [] d f = refl
none_at i (e ∷ es) d f = by_test (same_date e d) refl (none_at (i + 1) es d (λ m s. f (suc m) s))
  where
    by_test : (t : Bool) → same_date e d ≡ t → day_from (i + 1) es d ≡ None → choose t (Some i) (day_from (i + 1) es d) ≡ None
    by_test true q ih = absurd (f 0 (same_is e d q))
    by_test false q ih = ih

pub none_stands : (i : ℕ) (ds : List Date) (d : Date) → day_from i ds d ≡ None → (m : ℕ) → Stands ds m d → ⊥
unfolding day_from choose
none_stands i [] d p m s = s
none_stands i (e ∷ es) d p m s = by_test (same_date e d) refl p (none_stands (i + 1) es d) m s
  where
    by_test : (t : Bool) →
        same_date e d ≡ t →
        choose t (Some i) (day_from (i + 1) es d) ≡ None →
        (day_from (i + 1) es d ≡ None → (m : ℕ) → Stands es m d → ⊥) →
        (m : ℕ) → Stands (e ∷ es) m d → ⊥
    by_test true q p ih m s = none-some _ (sym p)
    by_test false q p ih zero s = false_true (sym q ∙ is_same e d s)
    by_test false q p ih (suc m) s = ih p m s

-- ---- rising dates
-- A date before another is before all that come after that one,
month_then : (d e f : Date) → EarlierInYear d e → EarlierInYear e f → EarlierInYear d f
month_then d e f (inl m) (inl n) = inl (omega (arith, m, n))
month_then d e f (inl m) (inr q) = inl (omega (arith, m, q.0))
month_then d e f (inr p) (inl n) = inl (omega (arith, p.0, n))
month_then d e f (inr p) (inr q) = inr (p.0 ∙ q.0, omega (arith, p.1, q.1))

earlier_then : (d e f : Date) → Earlier d e → Earlier e f → Earlier d f
earlier_then d e f (inl y) (inl z) = inl (omega (arith, y, z))
earlier_then d e f (inl y) (inr q) = inl (omega (arith, y, q.0))
earlier_then d e f (inr p) (inl z) = inl (omega (arith, p.0, z))
earlier_then d e f (inr p) (inr q) = inr (p.0 ∙ q.0, month_then d e f p.1 q.1)

-- and none is before itself.
not_earlier : (d : Date) → Earlier d d → ⊥
not_earlier d (inl y) = omega (arith, y)
not_earlier d (inr (y, inl m)) = omega (arith, m)
not_earlier d (inr (y, inr (m, h))) = omega (arith, h)

others_rise : (d : Date) (ds : List Date) → Rising (d ∷ ds) → Rising ds
others_rise d [] r = tt
others_rise d (e ∷ ds) r = r.1

-- the first is before every other
first_earlier : (d : Date) (ds : List Date) (e : Date) (m : ℕ) → Rising (d ∷ ds) → Stands ds m e → Earlier d e
first_earlier d [] e m r s = absurd s
first_earlier d (x ∷ ds) e zero r s = rw s at r.0
first_earlier d (x ∷ ds) e (suc m) r s = earlier_then d x e r.0 (first_earlier x ds e m r.1 s)

pub one_place_in : (ds : List Date) (d : Date) (j k : ℕ) → Rising ds → Stands ds j d → Stands ds k d → j ≡ k
one_place_in [] d j k r s t = absurd s
one_place_in (e ∷ es) d zero zero r s t = refl
one_place_in (e ∷ es) d zero (suc k) r s t = absurd (not_earlier d (rw s at (first_earlier e es d k r t)))
one_place_in (e ∷ es) d (suc j) zero r s t = absurd (not_earlier d (rw t at (first_earlier e es d j r s)))
one_place_in (e ∷ es) d (suc j) (suc k) r s t = ap suc (one_place_in es d j k (others_rise e es r) s t)
