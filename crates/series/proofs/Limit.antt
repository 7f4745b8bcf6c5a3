-- The position limit: what a trade leaves of the sections of each account, added without sign.
use mathlib.Core.Path.{◌≡◌, refl, sym, ap, ◌∙◌}
use mathlib.Core.Logic.{◌≢◌}
use mathlib.Core.Bool.{false}
use mathlib.Core.List.{List}
use Prim.Native.Nat.{ℕ, ◌≤◌, ◌<◌}
use native.Mathlib.Decide.{ℕ_discrete}
use native.Mathlib.Omega.{arith}
use borrow.Author.Tests.{le-ltb, eq-eqb, ne_eqb}
use lib.Dec.{eqb}
use lib.IntN.{ℤ, pos, neg_ℤ, nat_abs, ◌+ℤ◌, +ℤ_idr}
use lib.ListN.{length, set, length-set}
use lib.Seq.{get_or-set_same, get_or-set_other}
use Rattle.choice.specs.Choice.{choose}
use Rattle.integer.specs.Bounds.{Within}
use Rattle.integer.specs.Sum.{sumℕ}
use Rattle.integer.specs.Table.{at}
use Rattle.integer.proofs.NatSum.{sumℕ_ext}
use Rattle.margin.specs.declared.trade.Trade.{Trade}
use Rattle.places.specs.Places.{sections, places, place_in, gross, Limited}
use Rattle.places.proofs.Places.{place_within, other_account, other_section, gross_sum, gross_ext, gross_section}
use Rattle.terms.specs.Bounds.{accounts, max_position}
use Rattle.series.specs.Changes.{moved}
use Rattle.series.specs.Conditions.{gross_after, passes_limit}

-- ---- an account that changes in one section
module _ (l : List ℤ) (a section : ℕ) (change : ℤ) where
  abbrev place : ℕ
  place = place_in a section

  abbrev changed : ℕ → ℤ
  changed k = at l k +ℤ choose (eqb k place) change (pos 0)

  here : changed place ≡ at l place +ℤ change
  unfolding choose
  here = rw (eq-eqb place place refl) refl

  elsewhere : (k : ℕ) → k ≢ place → changed k ≡ at l k
  unfolding choose
  elsewhere k ne = rw (ne_eqb k place ne) (+ℤ_idr (at l k))

  -- section by section, as a loop has it
  in_section : section < sections → (s : ℕ) → s < sections → changed (place_in a s) ≡ at l (place_in a s) +ℤ choose (eqb s section) change (pos 0)
  unfolding choose
  in_section lsec s ls = by (ℕ_discrete s section)
    where
      by : Dec (s ≡ section) → changed (place_in a s) ≡ at l (place_in a s) +ℤ choose (eqb s section) change (pos 0)
      by (yes e) = rw (eq-eqb s section e, e) here
      by (no ne) = rw (ne_eqb s section ne, +ℤ_idr (at l (place_in a s))) (elsewhere (place_in a s) (other_section a ls lsec ne))

  pub gross_after_sum : section < sections
      → gross_after l a section change ≡ sumℕ sections (λ s. nat_abs (at l (place_in a s) +ℤ choose (eqb s section) change (pos 0)))
  unfolding gross_after
  gross_after_sum lsec = gross_sum changed a ∙ sumℕ_ext sections _ _ (λ s ls. ap nat_abs (in_section lsec s ls))

  -- the section itself is within what the account is within
  pub section_within : {B : ℕ} → section < sections → gross_after l a section change ≤ B → Within B (at l (place_in a section) +ℤ change)
  unfolding gross_after
  section_within lsec h = record { abs = omega (arith, h, gross_section changed a section lsec, ap nat_abs here) }

  -- positions that differ from these only where the account's section changes
  pub gross_changed : (f : ℕ → ℤ) → f place ≡ at l place +ℤ change
      → ((s : ℕ) → s < sections → place_in a s ≢ place → f (place_in a s) ≡ at l (place_in a s)) → gross f a ≡ gross_after l a section change
  unfolding gross_after
  gross_changed f e h = gross_ext f changed a (λ s ls. by s ls (ℕ_discrete (place_in a s) place))
    where
      by : (s : ℕ) → s < sections → Dec (place_in a s ≡ place) → f (place_in a s) ≡ changed (place_in a s)
      by s ls (yes q) = rw q (e ∙ sym here)
      by s ls (no ne) = h s ls ne ∙ sym (elsewhere (place_in a s) ne)

  -- "a sum that the trade lowers is never 8"
  pub lowered_stands : Limited max_position l → gross_after l a section change ≤ gross (at l) a → passes_limit (gross_after l a section change) ≡ false
  unfolding passes_limit
  lowered_stands g less = le-ltb max_position (gross_after l a section change) (omega (arith, less, g.each a))

-- ---- a trade between two accounts of the book, after which neither passes the limit
pub record CanMove (l : List ℤ) (t : Trade) : Type 0 where
  pub buyer : t.buyer < accounts
  pub seller : t.seller < accounts
  pub apart : t.buyer ≢ t.seller
  pub buyer_section : t.buyer_section < sections
  pub seller_section : t.seller_section < sections
  pub buyer_limit : gross_after l t.buyer t.buyer_section (pos t.quantity) ≤ max_position
  pub seller_limit : gross_after l t.seller t.seller_section (neg_ℤ (pos t.quantity)) ≤ max_position

module _ (l : List ℤ) (t : Trade) (c : CanMove l t) (long : length l ≡ places) where
  abbrev x : ℕ
  x = place_in t.buyer t.buyer_section

  abbrev y : ℕ
  y = place_in t.seller t.seller_section

  abbrev bought : ℤ
  bought = at l x +ℤ pos t.quantity

  abbrev sold : ℤ
  sold = at l y +ℤ neg_ℤ (pos t.quantity)

  pub places_apart : x ≢ y
  places_apart = other_account t.buyer_section t.seller_section c.buyer_section c.seller_section c.apart

  -- the buyer's section, the seller's, and all places but these two
  at_buyer : at (moved l t) x ≡ bought
  at_buyer =
      get_or-set_other (set l x bought) y x sold (pos 0) places_apart
      ∙ get_or-set_same l x bought (pos 0) (omega (arith, long, place_within t.buyer t.buyer_section c.buyer c.buyer_section))

  at_seller : at (moved l t) y ≡ sold
  at_seller =
      get_or-set_same (set l x bought) y sold (pos 0)
      (omega (arith, length-set l x bought, long, place_within t.seller t.seller_section c.seller c.seller_section))

  at_others : (k : ℕ) → k ≢ x → k ≢ y → at (moved l t) k ≡ at l k
  at_others k nx ny = get_or-set_other (set l x bought) y k sold (pos 0) ny ∙ get_or-set_other l x k bought (pos 0) nx

  -- an account that is not the buyer, and one that is not the seller, has no section at his place
  not_buyer : (a : ℕ) → a ≢ t.buyer → (s : ℕ) → s < sections → place_in a s ≢ x
  not_buyer a ne s ls = other_account s t.buyer_section ls c.buyer_section ne

  not_seller : (a : ℕ) → a ≢ t.seller → (s : ℕ) → s < sections → place_in a s ≢ y
  not_seller a ne s ls = other_account s t.seller_section ls c.seller_section ne

  pub limited_moved : Limited max_position l → Limited max_position (moved l t)
  limited_moved g = record { each = λ a. by a (ℕ_discrete a t.buyer) (ℕ_discrete a t.seller) }
    where
      by : (a : ℕ) → Dec (a ≡ t.buyer) → Dec (a ≡ t.seller) → gross (at (moved l t)) a ≤ max_position
      by a (yes e) other =
          rw e
          (omega (
            arith,
            c.buyer_limit,
            gross_changed l t.buyer t.buyer_section (pos t.quantity) (at (moved l t)) at_buyer
                (λ s ls ne. at_others (place_in t.buyer s) ne (not_seller t.buyer c.apart s ls)),
          ))
      by a (no nb) (yes e) =
          rw e
          (omega (
            arith,
            c.seller_limit,
            gross_changed l t.seller t.seller_section (neg_ℤ (pos t.quantity)) (at (moved l t)) at_seller
                (λ s ls ne. at_others (place_in t.seller s) (not_buyer t.seller (λ q. c.apart (sym q)) s ls) ne),
          ))
      by a (no nb) (no ns) =
          omega (arith, g.each a, gross_ext (at (moved l t)) (at l) a (λ s ls. at_others (place_in a s) (not_buyer a nb s ls) (not_seller a ns s ls)))
