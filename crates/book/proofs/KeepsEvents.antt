-- An event that is no session (a listing, a trade, a request, a refusal or a mark) and is carried out keeps what holds of every book.
use mathlib.Core.Path.{◌≡◌, refl, ◌∙◌}
use mathlib.Core.Logic.{◌≢◌}
use mathlib.Core.List.{List}
use Prim.Native.Nat.{ℕ, ◌+◌, ◌≤◌, ◌<◌}
use native.Mathlib.Decide.{ℕ_discrete}
use native.Mathlib.Omega.{arith}
use lib.ListN.{length, set, get_or, length-set}
use lib.Seq.{get_or-set_same, get_or-set_other}
use Rattle.margin.specs.Margin.{no_trade, in_period}
use Rattle.margin.specs.declared.trade.Trade.{Trade}
use Rattle.terms.specs.Bounds.{series_room, blotter_room}
use Rattle.series.specs.Changes.{listing_of, traded, requested, declined_by, marked}
use Rattle.series.specs.Good.{GoodSeries}
use Rattle.series.specs.Series.{new_series}
use Rattle.series.specs.declared.event.NewSeries.{NewSeries}
use Rattle.series.specs.declared.event.Deal.{Deal}
use Rattle.series.specs.declared.event.Request.{Request}
use Rattle.series.specs.declared.event.Waiver.{Waiver}
use Rattle.series.specs.declared.event.Quote.{Quote}
use Rattle.series.specs.declared.state.Series.{Series}
use Rattle.series.proofs.Limit.{CanMove}
use Rattle.series.proofs.Keeps.{good_new, good_traded, good_requested, good_declined, good_marked}
use Rattle.book.specs.Good.{Good, GoodTrade, Idle}
use Rattle.book.specs.State.{series_at, trade_at, today_of, with_series, with_blotter, no_series, no_listing}
use Rattle.book.specs.Step.{listed, entry_of, with_trade}
use Rattle.book.specs.declared.state.Book.{Book}
use Rattle.book.proofs.Allowed.{ListAllowed, CanTrade, CanExercise, CanDecline, CanMark}
use Rattle.book.proofs.Payments.{not_live_before}

-- what holds of v at i and of all other elements of a list holds of each, once v is stored at i
each_set : {A : Type 0} (l : List A) (i : ℕ) (v d : A) (P : ℕ → A → Type 0) → i < length l → P i v
    → ((j : ℕ) → j ≢ i → P j (get_or l j d)) → (j : ℕ) → P j (get_or (set l i v) j d)
each_set l i v d P lt p q j = by (ℕ_discrete j i)
  where
    by : Dec (j ≡ i) → P j (get_or (set l i v) j d)
    by (yes e) = rw (e, get_or-set_same l i v d lt) p
    by (no ne) = rw (get_or-set_other l i j v d ne) (q j ne)

-- ---- a trade of the day, in a book of the same day that has its series

pub same_trade : (b c : Book) (t : Trade) → c.day ≡ b.day → b.listed ≤ c.listed
    → ((i : ℕ) → i < b.listed → (series_at c i).listing ≡ (series_at b i).listing) → GoodTrade b t → GoodTrade c t
same_trade b c t day listed listing g =
    record {
      series = omega arith;
      live = rw (day, listing t.series g.series) g.live;
      buyer = g.buyer;
      seller = g.seller;
      apart = g.apart;
      quantity = g.quantity;
      price = g.price;
    }

module _ (b : Book) (g : Good b) where
  -- ---- one series is changed that is not past its last day
  module _ (i : ℕ) (lt : i < b.listed) (today : b.day ≤ (series_at b i).listing.last_day) (s : Series)
      (listing : s.listing ≡ (series_at b i).listing) (good : GoodSeries b.day s) where
    each : (P : ℕ → Series → Type 0) → P i s → ((j : ℕ) → j ≢ i → P j (series_at b j)) → (j : ℕ) → P j (series_at (with_series b i s) j)
    each P = each_set b.series i s no_series P (omega (arith, lt, g.listed, g.series_long))

    same_listing : (j : ℕ) → (series_at (with_series b i s) j).listing ≡ (series_at b j).listing
    same_listing = each (λ j x. x.listing ≡ (series_at b j).listing) listing (λ j ne. refl)

    pub good_with_series : Good (with_series b i s)
    good_with_series =
        record {
          day = g.day;
          listed = g.listed;
          trades = g.trades;
          series_long = length-set b.series i s ∙ g.series_long;
          blotter_long = g.blotter_long;
          paid_long = g.paid_long;
          cash_long = g.cash_long;
          series = each (λ j x. j < series_room → GoodSeries b.day x) (λ _. good) (λ j _. g.series j);
          tick = λ j l. rw (same_listing j) (g.tick j l);
          idle =
              each (λ j x. j < b.listed → x.listing.last_day < b.day → Idle x) (λ _ past. absurd (not_past (rw listing at past)))
              (λ j _. g.idle j);
          unlisted = each (λ j x. b.listed ≤ j → j < series_room → x ≡ new_series no_listing) (λ le _. absurd (not_listed le)) (λ j _. g.unlisted j);
          blotter = λ k l. same_trade b (with_series b i s) (trade_at b k) refl (omega arith) (λ j _. same_listing j) (g.blotter k l);
          paid = g.paid;
          fresh = g.fresh;
          paid_balances = g.paid_balances;
          paid_in_all = g.paid_in_all;
          paid_live = λ j a room l e. g.paid_live j a room l (not_live_before b (with_series b i s) refl (omega arith) (λ k _. same_listing k) j e);
          evening_cash = g.evening_cash;
          cash_balances = g.cash_balances;
        }
      where
        not_past : (series_at b i).listing.last_day < b.day → ⊥
        not_past l = omega (arith, today)

        not_listed : b.listed ≤ i → ⊥
        not_listed l = omega (arith, lt)

  good_series : {i : ℕ} → i < b.listed → GoodSeries b.day (series_at b i)
  good_series {i} lt = g.series i (omega (arith, lt, g.listed))

  pub good_request : (r : Request) → CanExercise b r
      → Good (with_series b r.series (requested (series_at b r.series) r))
  good_request r c =
      good_with_series r.series c.listed c.live (requested (series_at b r.series) r) refl
      (good_requested b.day (series_at b r.series) (good_series c.listed) r)

  pub good_decline : (w : Waiver) → CanDecline b w
      → Good (with_series b w.series (declined_by (series_at b w.series) w))
  good_decline w c =
      good_with_series w.series c.listed c.live (declined_by (series_at b w.series) w) refl
      (good_declined b.day (series_at b w.series) (good_series c.listed) w)

  pub good_mark : (q : Quote) → CanMark b q
      → Good (with_series b q.series (marked (series_at b q.series) q))
  good_mark q c =
      good_with_series q.series c.listed c.live (marked (series_at b q.series) q) refl
      (good_marked b.day (series_at b q.series) (good_series c.listed) q c.option c.coefficient)

-- ---- a trade: it moves the positions, then it joins the blotter
with_entry : Book → Trade → Book
with_entry b t = with_blotter b (set b.blotter b.trades t) (b.trades + 1)

good_entry : (b : Book) → Good b → (t : Trade) → GoodTrade b t → b.trades < blotter_room → Good (with_entry b t)
unfolding with_entry
good_entry b g t w room =
    record {
      day = g.day;
      listed = g.listed;
      trades = omega arith;
      series_long = g.series_long;
      blotter_long = length-set b.blotter b.trades t ∙ g.blotter_long;
      paid_long = g.paid_long;
      cash_long = g.cash_long;
      series = g.series;
      tick = g.tick;
      idle = g.idle;
      unlisted = g.unlisted;
      blotter =
          each_set b.blotter b.trades t no_trade (λ k u. k < b.trades + 1 → GoodTrade (with_entry b t) u) (omega (arith, g.blotter_long))
          (λ _. again t w) (λ k ne lt. again (trade_at b k) (g.blotter k (omega arith)));
      paid = g.paid;
      fresh = g.fresh;
      paid_balances = g.paid_balances;
      paid_in_all = g.paid_in_all;
      paid_live = g.paid_live;
      evening_cash = g.evening_cash;
      cash_balances = g.cash_balances;
    }
  where
    again : (u : Trade) → GoodTrade b u → GoodTrade (with_entry b t) u
    again u = same_trade b (with_entry b t) u refl (omega arith) (λ i _. refl)

-- a trade that is allowed moves positions, in whatever period
pub can_move : (b : Book) (p : ℕ) (d : Deal) → CanTrade b d → CanMove (series_at b d.series).positions (in_period p (entry_of d))
can_move b p d c =
    record {
      buyer = c.buyer;
      seller = c.seller;
      apart = c.apart;
      buyer_section = c.buyer_section;
      seller_section = c.seller_section;
      buyer_limit = c.buyer_limit;
      seller_limit = c.seller_limit;
    }

pub good_trade : (b : Book) → Good b → (p : ℕ) (d : Deal)
    → CanTrade b d → Good (with_trade b (in_period p (entry_of d)))
unfolding with_entry
good_trade b g p d c =
    let i = d.series in
    let t = in_period p (entry_of d) in
    let s = traded (series_at b i) t in
    let good = good_traded b.day (series_at b i) (good_series b g c.listed) t (can_move b p d c) in
    good_entry (with_series b i s) (good_with_series b g i c.listed c.live s refl good) t
    (same_trade b (with_series b i s) t refl (omega arith) (λ j _. same_listing b g i c.listed c.live s refl good j)
    (record {
      series = c.listed;
      live = c.live;
      buyer = c.buyer;
      seller = c.seller;
      apart = c.apart;
      quantity = c.most;
      price = c.price;
    }))
    c.room

-- ---- a listing
pub good_list : (b : Book) → Good b → (n : NewSeries) → ListAllowed (today_of b) n → Good (listed b (listing_of n))
good_list b g n c =
    let l = listing_of n in
    record {
      day = g.day;
      listed = omega arith;
      trades = g.trades;
      series_long = length-set b.series b.listed (new_series l) ∙ g.series_long;
      blotter_long = g.blotter_long;
      paid_long = g.paid_long;
      cash_long = g.cash_long;
      series = each (λ j x. j < series_room → GoodSeries b.day x) (λ _. good_new b.day l) (λ j _. g.series j);
      tick =
          each (λ j x. j < b.listed + 1 → 0 < x.listing.tick) (λ _. c.tick_least) (λ j ne lt. g.tick j (omega arith));
      idle =
          each (λ j x. j < b.listed + 1 → x.listing.last_day < b.day → Idle x) (λ _ past. absurd (not_past past))
          (λ j ne lt. g.idle j (omega arith));
      unlisted =
          each (λ j x. b.listed + 1 ≤ j → j < series_room → x ≡ new_series no_listing) (λ le _. absurd (not_above le))
          (λ j ne le. g.unlisted j (omega arith));
      blotter = λ k lt. same_trade b (listed b l) (trade_at b k) refl (omega arith) same_listing (g.blotter k lt);
      paid = g.paid;
      fresh = g.fresh;
      paid_balances = g.paid_balances;
      paid_in_all = g.paid_in_all;
      paid_live = λ j a room lt e. g.paid_live j a room lt (not_live_before b (listed b l) refl (omega arith) same_listing j e);
      evening_cash = g.evening_cash;
      cash_balances = g.cash_balances;
    }
  where
    each : (P : ℕ → Series → Type 0) → P b.listed (new_series (listing_of n)) → ((j : ℕ) → j ≢ b.listed → P j (series_at b j))
        → (j : ℕ) → P j (series_at (listed b (listing_of n)) j)
    each P = each_set b.series b.listed (new_series (listing_of n)) no_series P (omega (arith, c.room, g.series_long))

    not_past : n.last_day < b.day → ⊥
    not_past past = omega (arith, c.last_least)

    not_above : b.listed + 1 ≤ b.listed → ⊥
    not_above le = omega arith

    not_below : b.listed < b.listed → ⊥
    not_below lt = omega arith

    same_listing : (j : ℕ) → j < b.listed → (series_at (listed b (listing_of n)) j).listing ≡ (series_at b j).listing
    same_listing = each (λ j x. j < b.listed → x.listing ≡ (series_at b j).listing) (λ lt. absurd (not_below lt)) (λ j _ _. refl)
