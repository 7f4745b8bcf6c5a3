-- A place that no event names stays empty; so after events that name no section but 0 all of section 1 is empty.
use Rattle.std.specs.Prelude.{Ok, Err}
use mathlib.Core.Path.{◌≡◌, refl, ◌∙◌}
use mathlib.Core.Logic.{◌≢◌}
use mathlib.Core.Bool.{true, false}
use mathlib.Core.List as list
use mathlib.Core.List.{[], ◌∷◌}
use Prim.Native.Nat.{ℕ, ◌≤◌, ◌<◌}
use native.Mathlib.Omega.{arith}
use lib.IntN.{ℤ, pos, negsuc, nat_abs, ◌+ℤ◌, ◌-ℤ◌}
use lib.ListN.{get_or, set, get_or-replicate}
use lib.Seq.{get_or-set_other}
use Rattle.integer.specs.Bounds.{Within}
use Rattle.integer.specs.Table.{at}
use Rattle.integer.proofs.Bounds.{within_pos}
use Rattle.integer.proofs.Sum.{at_zeros}
use Rattle.integer.proofs.Table.{get_or_table}
use Rattle.places.specs.Places.{places, place_in}
use Rattle.places.proofs.Places.{same_section, place_within}
use Rattle.terms.specs.Bounds.{accounts, series_room}
use Rattle.series.specs.Changes.{unmarked, closing, new_futures, settled}
use Rattle.series.specs.Good.{GoodSeries}
use Rattle.series.specs.Series.{new_series, with_mark}
use Rattle.series.specs.Refusals.{Verdict}
use Rattle.series.specs.declared.state.Listing.{Listing}
use Rattle.series.specs.declared.state.Mark as mark_type
use Rattle.series.specs.declared.state.Series.{Series}
use Rattle.series.proofs.Keeps.{closing_less, new_futures_less}
use Rattle.book.specs.Good.{Good}
use Rattle.book.specs.State.{series_at, empty_book, no_listing, no_series}
use Rattle.book.specs.Step.{step_of, decided, carried_out, run, after}
use Rattle.book.specs.Verdicts.{verdict_of}
use Rattle.book.specs.declared.state.Book.{Book}
use Rattle.book.specs.declared.state.Event.{Event}
use Rattle.book.specs.declared.state.Event.TheVariants.{List, Trade, Exercise, Decline, Mark, Intraday, Evening}
use Rattle.book.proofs.Allowed.{allowed_list, allowed_trade, allowed_exercise, allowed_decline, allowed_mark}
use Rattle.book.proofs.Keeps.{good_step}
use Rattle.book.proofs.KeepsEmpty.{good_empty}
use Rattle.book.proofs.KeepsSessions.{each_changed}
use Rattle.reckoning.specs.Sections.{InSection0, AllInSection0, EmptyAt}
use Rattle.reckoning.proofs.SimulationEvents.{each_series}

-- an event leaves place k alone
abbrev Avoids : ℕ → Event → Type 0
Avoids k (List n) = Unit {0}
Avoids k (Trade d) = (k ≢ place_in d.buyer d.buyer_section) × (k ≢ place_in d.seller d.seller_section)
Avoids k (Exercise r) = k ≢ place_in r.account r.section
Avoids k (Decline w) = k ≢ place_in w.account w.section
Avoids k (Mark q) = Unit {0}
Avoids k Intraday = Unit {0}
Avoids k Evening = Unit {0}

abbrev AllAvoid : ℕ → list.List Event → Type 0
AllAvoid k [] = Unit {0}
AllAvoid k (e ∷ es) = Avoids k e × AllAvoid k es

-- 0 is what is within 0
zero_within : {x : ℤ} → x ≡ pos 0 → Within 0 x
zero_within e = rw e (within_pos (omega arith))

within_zero : {x : ℤ} → Within 0 x → x ≡ pos 0
within_zero {x = pos n} h = by n h.abs
  where
    by : (n : ℕ) → nat_abs (pos n) ≤ 0 → pos n ≡ pos 0
    by n l = let e : n ≡ 0 = omega arith in rw e refl
within_zero {x = negsuc n} h = absurd (none h.abs)
  where
    none : nat_abs (negsuc n) ≤ 0 → ⊥
    none l = omega arith

module _ (k : ℕ) (lk : k < places) where
  new_empty : (l : Listing) → EmptyAt (new_series l) k
  new_empty l =
      record {
        position = at_zeros places k;
        opening = at_zeros places k;
        request = get_or-replicate places k 0 0 lk;
        declined = get_or-replicate places k false false lk;
        futures = at_zeros places k;
      }

  -- a mark, made or dropped
  marked_empty : {s : Series} {m : mark_type.Mark} → EmptyAt s k → EmptyAt (with_mark s m) k
  marked_empty e = record { position = e.position; opening = e.opening; request = e.request; declined = e.declined; futures = e.futures }

  -- an evening: nothing is exercised or assigned where nothing is held or short
  settled_empty : (day : ℕ) (s : Series) → GoodSeries day s → EmptyAt s k → EmptyAt (settled s day) k
  settled_empty day s g e =
      let closes : closing s day k ≡ pos 0 = within_zero (closing_less day s g k (zero_within e.position)) in
      let arises : new_futures s day k ≡ pos 0 = within_zero (new_futures_less day s g k (zero_within e.position)) in
      record {
        position = get_or_table places _ k (pos 0) lk ∙ closes;
        opening = get_or_table places _ k (pos 0) lk ∙ closes;
        request = get_or-replicate places k 0 0 lk;
        declined = get_or-replicate places k false false lk;
        futures = get_or_table places _ k (pos 0) lk ∙ rw (e.futures, arises) refl;
      }

  abbrev Empty : Book → Type 0
  Empty b = (i : ℕ) → i < series_room → EmptyAt (series_at b i) k

  module _ (b : Book) (g : Good b) (e : Empty b) where
    -- one series is changed
    one : (i : ℕ) (s : Series) → i < b.listed → EmptyAt s k → (j : ℕ) → j < series_room → EmptyAt (get_or (set b.series i s) j no_series) k
    one i s lt here = each_series (λ j x. EmptyAt x k) b.series i s (omega (arith, lt, g.listed, g.series_long)) here (λ j l ne. e j l)

    there : (i : ℕ) → i < b.listed → EmptyAt (series_at b i) k
    there i lt = e i (omega (arith, lt, g.listed))

    empty_allowed : (f : Event) → Avoids k f → verdict_of b f ≡ Ok tt → Empty (carried_out b f).book
    empty_allowed (List n) a v =
        each_series (λ j x. EmptyAt x k) b.series b.listed _ (omega (arith, (allowed_list b n v).room, g.series_long)) (new_empty _) (λ j l ne. e j l)
    empty_allowed (Trade d) a v =
        let lt = (allowed_trade b d v).listed in
        let now = there d.series lt in
        let l = (series_at b d.series).positions in
        let x = place_in d.buyer d.buyer_section in
        let y = place_in d.seller d.seller_section in
        let q = pos d.quantity in
        one d.series _ lt (record {
          position =
              get_or-set_other (set l x (at l x +ℤ q)) y k (at l y -ℤ q) (pos 0) a.1 ∙ get_or-set_other l x k (at l x +ℤ q) (pos 0) a.0 ∙ now.position;
          opening = now.opening;
          request = now.request;
          declined = now.declined;
          futures = now.futures;
        })
    empty_allowed (Exercise r) a v =
        let lt = (allowed_exercise b r v).listed in
        let now = there r.series lt in
        let s = series_at b r.series in
        let place = place_in r.account r.section in
        one r.series _ lt (record {
          position = now.position;
          opening = now.opening;
          request = get_or-set_other s.requests place k r.quantity 0 a ∙ now.request;
          declined = get_or-set_other s.declined place k false false a ∙ now.declined;
          futures = now.futures;
        })
    empty_allowed (Decline w) a v =
        let lt = (allowed_decline b w v).listed in
        let now = there w.series lt in
        let s = series_at b w.series in
        let place = place_in w.account w.section in
        one w.series _ lt (record {
          position = now.position;
          opening = now.opening;
          request = get_or-set_other s.requests place k 0 0 a ∙ now.request;
          declined = get_or-set_other s.declined place k true false a ∙ now.declined;
          futures = now.futures;
        })
    empty_allowed (Mark q) a v =
        let lt = (allowed_mark b q v).listed in
        let now = there q.series lt in
        one q.series _ lt (marked_empty now)
    empty_allowed Intraday a v =
        each_changed b unmarked (λ i s. EmptyAt s k)
        (λ i lt l. marked_empty (e i lt)) (λ i lt l. e i lt)
    empty_allowed Evening a v =
        each_changed b (λ s. settled s b.day) (λ i s. EmptyAt s k) (λ i lt l. settled_empty b.day (series_at b i) (g.series i lt) (e i lt)) (λ i lt l. e i lt)

    empty_step : (f : Event) → Avoids k f → Empty (step_of b f).book
    unfolding decided
    empty_step f a = by (verdict_of b f) refl
      where
        by : (v : Verdict) → verdict_of b f ≡ v → Empty (decided b f v).book
        by (Ok tt) q = empty_allowed f a q
        by (Err why) q = e

  empty_run : (es : list.List Event) (b : Book) → Good b → Empty b → AllAvoid k es → Empty (run b es)
  unfolding run
  empty_run [] b g e a = e
  empty_run (f ∷ fs) b g e a = empty_run fs (step_of b f).book (good_step b g f) (empty_step b g e f a.0) a.1

  -- a place that no event of a list names
  pub unnamed_empty : (es : list.List Event) → AllAvoid k es → (i : ℕ) → i < series_room → EmptyAt (series_at (after es) i) k
  unnamed_empty es a = empty_run es empty_book good_empty (λ i lt. rw (get_or-replicate series_room i (new_series no_listing) no_series lt) (new_empty no_listing)) a

-- ---- section 1
-- it is not where an event in section 0 is
apart : (a b s : ℕ) → s ≡ 0 → place_in a 1 ≢ place_in b s
apart a b s e q = let z : ◌≡◌ {A = ℕ} 1 s = same_section a b 1 s (omega arith) (omega (arith, e)) q in omega (arith, e, z)

avoids_1 : (a : ℕ) (e : Event) → InSection0 e → Avoids (place_in a 1) e
avoids_1 a (List n) h = tt
avoids_1 a (Trade d) h = (apart a d.buyer d.buyer_section h.0, apart a d.seller d.seller_section h.1)
avoids_1 a (Exercise r) h = apart a r.account r.section h
avoids_1 a (Decline w) h = apart a w.account w.section h
avoids_1 a (Mark q) h = tt
avoids_1 a Intraday h = tt
avoids_1 a Evening h = tt

all_avoid_1 : (a : ℕ) (es : list.List Event) → AllInSection0 es → AllAvoid (place_in a 1) es
all_avoid_1 a [] h = tt
all_avoid_1 a (e ∷ es) h = (avoids_1 a e h.0, all_avoid_1 a es h.1)

-- "if no event names a section but 0, all that stands in a section 1 is 0"
pub second_section_empty : (es : list.List Event) → AllInSection0 es → (i a : ℕ) → i < series_room → a < accounts
    → EmptyAt (series_at (after es) i) (place_in a 1)
second_section_empty es h i a li la = unnamed_empty (place_in a 1) (place_within a 1 la (omega arith)) es (all_avoid_1 a es h) i li
