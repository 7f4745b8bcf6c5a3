-- What holds of every series: a new one has it, and every event that is carried out keeps it.
use mathlib.Core.Path.{◌≡◌, refl, sym, ◌∙◌}
use mathlib.Core.Bool.{Bool, true, false}
use mathlib.Core.List.{List}
use Prim.Native.Nat.{ℕ, ◌+◌, ◌*◌, ◌≤◌, ◌<◌}
use native.Mathlib.Omega.{arith}
use lib.IntN.{ℤ, pos, neg_ℤ, nat_abs, ◌+ℤ◌}
use lib.ListN.{length, length-set}
use Rattle.choice.specs.Choice.{choose}
use Rattle.places.specs.Places.{places, place_in, of_account, Limited, amount, flag}
use Rattle.places.proofs.Places.{place_within, limited_zeros, limited_table, limited_of_account}
use Rattle.exercise.specs.Evening.{remaining}
use Rattle.exercise.proofs.Session.{remaining_in_all, remaining_within, arisen_in_all, arisen_within}
use Rattle.integer.specs.Bounds.{Within}
use Rattle.integer.proofs.Bounds.{within_itself, within_le, within_pos, within_add, bounded_le, bounded_set, bounded_table, bounded_zeros}
use Rattle.integer.specs.Table.{at, table}
use Rattle.integer.specs.Sum.{sum_to}
use Rattle.integer.proofs.Sum.{sum_0, sum_add, sum_table, sum_zeros, sum_move_list}
use Rattle.integer.proofs.Table.{length_table}
use Rattle.margin.specs.declared.trade.Trade.{Trade}
use Rattle.terms.specs.Bounds.{max_option_price, max_tick_value, max_position}
use Rattle.value.specs.Value.{coefficient_of}
use Rattle.series.specs.Changes.{traded, requested, declined_by, marked, unmarked, fixing_of, closing, new_futures, settled}
use Rattle.series.specs.Good.{Balanced, GoodSeries}
use Rattle.series.specs.Series.{zeros, new_series, with_requests, last_day}
use Rattle.series.specs.declared.event.Request.{Request}
use Rattle.series.specs.declared.event.Waiver.{Waiver}
use Rattle.series.specs.declared.event.Quote.{Quote}
use Rattle.series.specs.declared.state.Listing.{Listing}
use Rattle.series.specs.declared.state.Series.{Series}
use Rattle.series.proofs.Interest.{none_in_zeros}
use Rattle.series.proofs.Limit.{CanMove, section_within, places_apart, limited_moved}

-- ---- arrays of positions
pub balanced_zeros : (B : ℕ) → Balanced B zeros
balanced_zeros B = record { long = refl; bounded = bounded_zeros B places; balance = sum_zeros places places }

pub balanced_le : {A B : ℕ} {l : List ℤ} → Balanced A l → A ≤ B → Balanced B l
balanced_le g h = record { long = g.long; bounded = bounded_le g.bounded h; balance = g.balance }

pub balanced_table : {B : ℕ} (f : ℕ → ℤ) → ((k : ℕ) → k < places → Within B (f k)) → sum_to places f ≡ pos 0 → Balanced B (table places f)
balanced_table f h e =
    record { long = length_table places f; bounded = bounded_table places f h; balance = sum_table places f ∙ e }

-- the position that exercise leaves
abbrev left : Series → ℕ → ℕ → ℤ
left s day = remaining places (fixing_of s day) (at s.positions) (amount s.requests) (flag s.declined)

-- ---- the events
pub good_new : (day : ℕ) (l : Listing) → GoodSeries day (new_series l)
good_new day l =
    record {
      positions = balanced_zeros max_position;
      opening = balanced_zeros max_position;
      futures = balanced_zeros (day * max_position);
      interest = sym none_in_zeros;
      limited = limited_zeros max_position;
      opening_limited = limited_zeros max_position;
      requests = refl;
      declined = refl;
      price = omega arith;
      option = omega arith;
      coefficient = omega arith;
    }

module _ (day : ℕ) (s : Series) (g : GoodSeries day s) where
  pub good_traded : (t : Trade) → CanMove s.positions t → GoodSeries day (traded s t)
  good_traded t c =
      let x = place_in t.buyer t.buyer_section in
      let y = place_in t.seller t.seller_section in
      record {
        positions = record {
          long = simp length-set g.positions.long;
          bounded =
              bounded_set y
              (bounded_set x g.positions.bounded
              (section_within s.positions t.buyer t.buyer_section (pos t.quantity) c.buyer_section c.buyer_limit))
              (section_within s.positions t.seller t.seller_section (neg_ℤ (pos t.quantity)) c.seller_section c.seller_limit);
          balance =
              sum_move_list places s.positions x y (pos t.quantity) g.positions.long
              (place_within t.buyer t.buyer_section c.buyer c.buyer_section) (place_within t.seller t.seller_section c.seller c.seller_section)
              (places_apart s.positions t c g.positions.long)
              ∙ g.positions.balance;
        };
        opening = g.opening;
        futures = g.futures;
        interest = refl;
        limited = limited_moved s.positions t c g.positions.long g.limited;
        opening_limited = g.opening_limited;
        requests = g.requests;
        declined = g.declined;
        price = g.price;
        option = g.option;
        coefficient = g.coefficient;
      }

  -- a request, or a refusal
  with_requests_lem : (requests : List ℕ) (declined : List Bool) → length requests ≡ places → length declined ≡ places
      → GoodSeries day (with_requests s requests declined)
  with_requests_lem requests declined e f =
      record {
        positions = g.positions;
        opening = g.opening;
        futures = g.futures;
        interest = g.interest;
        limited = g.limited;
        opening_limited = g.opening_limited;
        requests = e;
        declined = f;
        price = g.price;
        option = g.option;
        coefficient = g.coefficient;
      }

  pub good_requested : (r : Request) → GoodSeries day (requested s r)
  good_requested r =
      with_requests_lem _ _ (length-set s.requests (place_in r.account r.section) r.quantity ∙ g.requests)
      (length-set s.declined (place_in r.account r.section) false ∙ g.declined)

  pub good_declined : (w : Waiver) → GoodSeries day (declined_by s w)
  good_declined w =
      with_requests_lem _ _ (length-set s.requests (place_in w.account w.section) 0 ∙ g.requests)
      (length-set s.declined (place_in w.account w.section) true ∙ g.declined)

  pub good_marked : (q : Quote) → q.option ≤ max_option_price → coefficient_of q.tick_value s.listing.tick ≤ max_tick_value
      → GoodSeries day (marked s q)
  good_marked q option coefficient =
      record {
        positions = g.positions;
        opening = g.opening;
        futures = g.futures;
        interest = g.interest;
        limited = g.limited;
        opening_limited = g.opening_limited;
        requests = g.requests;
        declined = g.declined;
        price = g.price;
        option = option;
        coefficient = coefficient;
      }

  pub good_unmarked : GoodSeries day (unmarked s)
  good_unmarked =
      record {
        positions = g.positions;
        opening = g.opening;
        futures = g.futures;
        interest = g.interest;
        limited = g.limited;
        opening_limited = g.opening_limited;
        requests = g.requests;
        declined = g.declined;
        price = g.price;
        option = omega arith;
        coefficient = omega arith;
      }

  -- ---- the evening
  -- a place closes with no more than it had
  pub closing_less : {B : ℕ} (k : ℕ) → Within B (at s.positions k) → Within B (closing s day k)
  unfolding choose
  closing_less {B} k h = by (last_day s day)
    where
      by : (t : Bool) → Within B (choose t (pos 0) (left s day k))
      by true = within_pos (omega arith)
      by false = remaining_within places (fixing_of s day) (at s.positions) (amount s.requests) (flag s.declined) g.positions.balance k h

  pub closing_within : (k : ℕ) → Within max_position (closing s day k)
  closing_within k = closing_less k (g.positions.bounded.each k)

  closing_no_more : (k : ℕ) → Within (nat_abs (at s.positions k)) (closing s day k)
  closing_no_more k = closing_less k (within_itself (at s.positions k))

  pub closing_limited : Limited max_position (table places (closing s day))
  closing_limited = limited_table (closing s day) closing_no_more g.limited

  pub closing_of_account : (a : ℕ) → Within max_position (of_account (closing s day) a)
  closing_of_account = limited_of_account (closing s day) closing_no_more g.limited

  -- what an account has now, and what it had at the day's start
  pub position_of_account : (a : ℕ) → Within max_position (of_account (at s.positions) a)
  position_of_account = limited_of_account (at s.positions) (λ k. within_itself (at s.positions k)) g.limited

  pub opening_of_account : (a : ℕ) → Within max_position (of_account (at s.opening) a)
  opening_of_account = limited_of_account (at s.opening) (λ k. within_itself (at s.opening k)) g.opening_limited

  pub closing_balances : sum_to places (closing s day) ≡ pos 0
  unfolding choose
  closing_balances = by (last_day s day)
    where
      by : (t : Bool) → sum_to places (λ k. choose t (pos 0) (left s day k)) ≡ pos 0
      by true = sum_0 places
      by false = remaining_in_all places (fixing_of s day) (at s.positions) (amount s.requests) (flag s.declined) g.positions.balance

  -- no more futures arise at a place than it has positions
  pub new_futures_less : {B : ℕ} (k : ℕ) → Within B (at s.positions k) → Within B (new_futures s day k)
  new_futures_less k h = arisen_within places (fixing_of s day) (at s.positions) (amount s.requests) (flag s.declined) g.positions.balance k h

  pub new_futures_within : (k : ℕ) → Within max_position (new_futures s day k)
  new_futures_within k = new_futures_less k (g.positions.bounded.each k)

  pub new_futures_balance : sum_to places (new_futures s day) ≡ pos 0
  new_futures_balance = arisen_in_all places (fixing_of s day) (at s.positions) (amount s.requests) (flag s.declined) g.positions.balance

  pub good_settled : GoodSeries (day + 1) (settled s day)
  good_settled =
      record {
        positions = balanced_table (closing s day) (λ k lt. closing_within k) closing_balances;
        opening = balanced_table (closing s day) (λ k lt. closing_within k) closing_balances;
        futures =
            balanced_table (λ k. at s.futures k +ℤ new_futures s day k) (λ k lt. within_le (within_add (g.futures.bounded.each k) (new_futures_within k)) (omega arith))
            (sum_add places (at s.futures) (new_futures s day) ∙ rw (g.futures.balance, new_futures_balance) refl);
        interest = refl;
        limited = closing_limited;
        opening_limited = closing_limited;
        requests = refl;
        declined = refl;
        price = g.option;
        option = omega arith;
        coefficient = omega arith;
      }

  -- a series that the evening leaves alone
  pub good_later : GoodSeries (day + 1) s
  good_later =
      record {
        positions = g.positions;
        opening = g.opening;
        futures = balanced_le g.futures (omega arith);
        interest = g.interest;
        limited = g.limited;
        opening_limited = g.opening_limited;
        requests = g.requests;
        declined = g.declined;
        price = g.price;
        option = g.option;
        coefficient = g.coefficient;
      }
