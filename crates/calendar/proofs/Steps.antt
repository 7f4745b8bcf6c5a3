-- Steps of the search for a date and of the reader of lines, as their turns and returns ask them.
use Prim.Native.Nat.{ℕ, zero, suc, ◌+◌, ◌-◌, ◌≤◌, ◌<◌}
use mathlib.Core.Path.{◌≡◌, refl, sym, ap, ◌∙◌}
use mathlib.Core.List.{List, [], ◌∷◌, ◌++◌, append-nil, append_assoc, map-append}
use native.Mathlib.Numerals.{add-one}
use native.Mathlib.Omega.{arith}
use lib.ListN.{length, take, set, length-set}
use lib.Seq.{take-suc-set}
use borrow.Author.Tests.{le-leb, lt-leb, le-ltb, lt-ltb}
use Rattle.std.specs.Prelude.{Option, Some, None}
use Rattle.choice.specs.Choice.{choose}
use Rattle.contract.specs.Date.{TwoDigitsEach, on_date}
use Rattle.contract.specs.declared.types.Date.{Date}
use Rattle.contract.proofs.DateField.{dated, undated}
use Rattle.contract.proofs.Scanning.{scanned_next, scanned_broken}
use Rattle.contract.proofs.WholeLayout.{is_accepted, is_refused}
use Rattle.calendar.specs.Days.{number_of, max_dates, date_of, dates_of}
use Rattle.calendar.specs.Text.{Calendar, trading, broken, line_at, onto, lines_from, calendar_of, read_as, Few, Room, ReadAs}
use Rattle.calendar.proofs.Promises.{date_of_number}
use Rattle.calendar.proofs.Lines.{line_text}

-- ---- a line and its end
pub ruleset fields = (dated, undated, is_accepted, is_refused, scanned_next, scanned_broken)

pub line_digits : (s : List ℕ) (at : ℕ) (r : Option (Date × ℕ)) (d : Date) (n : ℕ) → r ≡ line_at s at → r ≡ Some (d, n) → TwoDigitsEach d
line_digits s at r d n p q = (line_text s at d n (sym p ∙ q)).date.1

-- ---- the lines from a place on, one by one
lines_none : (room : ℕ) (s : List ℕ) (before at : ℕ) → length s ≤ at → lines_from room s before at ≡ trading []
unfolding lines_from choose
lines_none zero s before at h = rw (le-leb (length s) at h)
lines_none (suc room) s before at h = rw (le-leb (length s) at h)

module _ (s : List ℕ) (before at : ℕ) (h : at < length s) where
  lines_full : lines_from 0 s before at ≡ broken
  unfolding lines_from choose
  lines_full = rw (lt-leb (length s) at h)

  lines_undated : (room : ℕ) → line_at s at ≡ None → lines_from room s before at ≡ broken
  unfolding lines_from on_date choose
  lines_undated zero e = rw (lt-leb (length s) at h)
  lines_undated (suc room) e = rw (lt-leb (length s) at h, e)

  module _ (d : Date) (n : ℕ) (e : line_at s at ≡ Some (d, n)) where
    lines_falling : (room : ℕ) → number_of d ≤ before → lines_from room s before at ≡ broken
    unfolding lines_from on_date choose
    lines_falling zero f = rw (lt-leb (length s) at h)
    lines_falling (suc room) f = rw (lt-leb (length s) at h, e, le-ltb before (number_of d) f)

    lines_later : (room : ℕ) → before < number_of d → lines_from (suc room) s before at ≡ onto d (lines_from room s (number_of d) n)
    unfolding lines_from on_date choose
    lines_later room f = rw (lt-leb (length s) at h, e, lt-ltb before (number_of d) f)

-- ---- the dates so far, and what is read from here on, are what is read of all
unfoldable pub behind : List Date → Calendar → Calendar
behind ds (trading es) = trading (ds ++ es)
behind ds broken = broken

one_behind : (ds : List Date) (d : Date) (c : Calendar) → behind (ds ++ (d ∷ [])) c ≡ behind ds (onto d c)
unfolding behind onto
one_behind ds d (trading es) = ap trading (append_assoc ds (d ∷ []) es)
one_behind ds d broken = refl

pub record Reached (text numbers : List ℕ) (n before at : ℕ) : Type 0 where
  pub few : n ≤ max_dates
  pub room : length numbers ≡ max_dates
  pub all : behind (dates_of (take n numbers)) (lines_from (max_dates - n) text before at) ≡ calendar_of text

none_behind : (c : Calendar) → behind [] c ≡ c
unfolding behind
none_behind (trading ds) = refl
none_behind broken = refl

pub reached_start : (text numbers : List ℕ) → length numbers ≡ max_dates → Reached text numbers 0 0 0
unfolding calendar_of
reached_start text numbers h = record { few = omega arith; room = h; all = none_behind (lines_from max_dates text 0 0) }

module _ {text numbers : List ℕ} {n before at : ℕ} (r : Reached text numbers n before at) where
  by_rest : {c : Calendar} → lines_from (max_dates - n) text before at ≡ c → behind (dates_of (take n numbers)) c ≡ calendar_of text
  by_rest e = ap (behind (dates_of (take n numbers))) (sym e) ∙ r.all

  -- all lines are read
  pub reached_end : length text ≤ at → ReadAs (Some (record { numbers = numbers; count = n })) (calendar_of text)
  unfolding read_as Few Room behind
  reached_end h = record {
    says = ap trading (sym (append-nil (dates_of (take n numbers)))) ∙ by_rest (lines_none (max_dates - n) text before at h);
    few = r.few;
    room = r.room;
  }

  module _ (h : at < length text) where
    -- no calendar
    none_read : lines_from (max_dates - n) text before at ≡ broken → ReadAs None (calendar_of text)
    unfolding read_as Few Room behind
    none_read e = record { says = by_rest e; few = tt; room = tt }

    pub reached_full : n ≡ max_dates → ReadAs None (calendar_of text)
    reached_full e =
        let z : max_dates - n ≡ 0 = omega arith in
        none_read (ap (λ (room : ℕ). lines_from room text before at) z ∙ lines_full text before at h)

    module _ (m : Option (Date × ℕ)) (p : m ≡ line_at text at) where
      pub reached_undated : m ≡ None → ReadAs None (calendar_of text)
      reached_undated q = none_read (lines_undated text before at h (max_dates - n) (sym p ∙ q))

      module _ (d : Date) (next : ℕ) (q : m ≡ Some (d, next)) (number : ℕ) (e : number ≡ number_of d) where
        pub reached_falling : number ≤ before → ReadAs None (calendar_of text)
        reached_falling f = none_read (lines_falling text before at h d next (sym p ∙ q) (max_dates - n) (rw e at f))

        -- one date more
        front : n < max_dates → dates_of (take (n + 1) (set numbers n number)) ≡ dates_of (take n numbers) ++ (d ∷ [])
        front few =
            ap (λ (k : ℕ). dates_of (take k (set numbers n number))) (add-one n)
            ∙ ap dates_of (take-suc-set numbers n number (omega (arith, r.room)))
            ∙ map-append date_of (take n numbers) (number ∷ [])
            ∙ ap (λ (x : Date). dates_of (take n numbers) ++ (x ∷ [])) (ap date_of e ∙ date_of_number d (line_digits text at m d next p q))

        pub reached_next : (n ≡ max_dates → ⊥) → before < number → Reached text (set numbers n number) (n + 1) number next
        reached_next full f =
            let few : n < max_dates = omega (arith, r.few, full) in
            let z : max_dates - n ≡ suc (max_dates - (n + 1)) = omega arith in
            let rest = lines_from (max_dates - (n + 1)) text number next in
            record {
              few = omega arith;
              room = length-set numbers n number ∙ r.room;
              all =
                  ap (λ (ds : List Date). behind ds rest) (front few)
                  ∙ one_behind (dates_of (take n numbers)) d rest
                  ∙ ap (λ (k : ℕ). behind (dates_of (take n numbers)) (onto d (lines_from (max_dates - (n + 1)) text k next))) e
                  ∙ by_rest (ap (λ (room : ℕ). lines_from room text before at) z ∙ lines_later text before at h d next (sym p ∙ q) (max_dates - (n + 1)) (rw e at f));
            }
