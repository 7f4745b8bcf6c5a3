-- The values and splits (RULES, "Values and splits"), said of the definitions.
use Rattle.std.specs.Prelude.{◌≡◌, [], ◌∷◌, ◌++◌, ℕ, pos, neg_ℤ, replicate}
use mathlib.Core.List as list
use Rattle.exercise.specs.Assignment.{assigned}
use Rattle.exercise.specs.Exercise.{half}
use Rattle.exercise.specs.Evening.{exercised_at}
use Rattle.integer.specs.Table.{at}
use Rattle.places.specs.Places.{places, place_in, amount, flag}
use Rattle.series.specs.Changes.{fixing_of}
use Rattle.terms.specs.declared.Category.TheVariants.{American}
use Rattle.terms.specs.declared.OptionType.TheVariants.{Call, Put}
use Rattle.value.specs.Value.{coefficient_of, value_of}
use Rattle.book.specs.Answers.{answer_number}
use Rattle.book.specs.State.{series_at, position, futures}
use Rattle.book.specs.Step.{step_of, after}
use Rattle.book.specs.declared.state.Event.{Event}
use Rattle.book.specs.declared.state.Event.TheVariants.{List, Trade, Mark, Evening}

-- what the first three writers are assigned of e contracts, where they alone are short
abbrev pub assigned_to_three : ℕ → list.List ℕ → list.List ℕ
assigned_to_three e shorts = assigned places e (amount shorts) 0 ∷ assigned places e (amount shorts) 1 ∷ assigned places e (amount shorts) 2 ∷ []

-- a listing of calls with R 1.00; then, in that series, a trade of q contracts at 150.00 that a section of x buys and y sells
abbrev pub listing_to : ℕ → Event
listing_to last = List (record { option = Call; category = American; strike = 1700000; tick = 100; last_day = last })

abbrev pub trade_in : ℕ → ℕ → ℕ → ℕ → Event
trade_in section x y q =
    Trade (record { series = 0; buyer = x; seller = y; quantity = q; price = 15000; buyer_section = section; seller_section = 0 })

-- with the last day 1, and in section 0
abbrev pub listing : Event
listing = listing_to 1

abbrev pub trade : ℕ → ℕ → ℕ → Event
trade x y q = trade_in 0 x y q

-- the listing and n trades of 1,000 contracts that account 1 buys and account 2 sells
abbrev pub thousands : ℕ → list.List Event
thousands n = listing ∷ replicate n (trade 1 2 1000)

-- the number of the answer to an event after a list of events
abbrev pub number_after : list.List Event → Event → ℕ
number_after es e = answer_number (step_of (after es) e).answer

-- on the last day, with the futures price at the strike
abbrev pub at_the_money : list.List Event → list.List Event
at_the_money trades = (listing_to 0 ∷ trades) ++ (Mark (record { series = 0; option = 0; future = 1700000; tick_value = 100000 }) ∷ [])

-- what a section of account 1 exercises in the evening after a list of events
abbrev pub exercised_in : list.List Event → ℕ → ℕ
exercised_in es section =
    let b = after es in
    let s = series_at b 0 in
    exercised_at places (fixing_of s b.day) (at s.positions) (amount s.requests) (flag s.declined) (place_in 1 section)

-- account 1 has 5 calls in each section; and 10 in one
abbrev pub two_fives : list.List Event
two_fives = at_the_money (trade_in 0 1 2 5 ∷ trade_in 1 1 2 5 ∷ [])

abbrev pub one_ten : list.List Event
one_ten = at_the_money (trade_in 0 1 2 10 ∷ [])

pub record ValuesAndSplits : Type 0 where
  -- (W, R) to c
  pub coefficient_100000_100 : coefficient_of 100000 100 ≡ 100000
  pub coefficient_100000_3 : coefficient_of 100000 3 ≡ 3333333
  pub coefficient_50000_100 : coefficient_of 50000 100 ≡ 50000
  pub coefficient_923456_1 : coefficient_of 923456 1 ≡ 92345600
  -- V(p) by c and p
  pub value_92345600_317 : value_of 92345600 317 ≡ 292736
  pub value_3333333_1000000 : value_of 3333333 1000000 ≡ 33333330
  pub value_50000_1 : value_of 50000 1 ≡ 1
  pub value_50000_2 : value_of 50000 2 ≡ 1
  -- half of 5
  pub half_call : half Call 5 ≡ 3
  pub half_put : half Put 5 ≡ 2
  -- two sections of 5 calls at the money exercise 3 + 3, and the account has 6 futures; one section of 10 exercises 5
  pub fives_first : exercised_in two_fives 0 ≡ 3
  pub fives_second : exercised_in two_fives 1 ≡ 3
  pub fives_futures : futures (after (two_fives ++ (Evening ∷ []))) 0 1 ≡ pos 6
  pub ten_in_one : exercised_in one_ten 0 ≡ 5
  pub ten_futures : futures (after (one_ten ++ (Evening ∷ []))) 0 1 ≡ pos 5
  -- E 3, writers short 2, 2, 2; E 2, writers short 1, 1, 1
  pub split_3 : assigned_to_three 3 (2 ∷ 2 ∷ 2 ∷ []) ≡ 1 ∷ 1 ∷ 1 ∷ []
  pub split_2 : assigned_to_three 2 (1 ∷ 1 ∷ 1 ∷ []) ≡ 1 ∷ 1 ∷ 0 ∷ []
  -- a trade's quantity: 1,000 is taken, 1,001 refused 6
  pub largest_quantity : number_after (thousands 0) (trade 1 2 1000) ≡ 0
  pub larger_quantity : number_after (thousands 0) (trade 1 2 1001) ≡ 6
  -- a hundred trades of 1,000 take both positions to 100,000, which stands; one contract more is 8, of the buyer and of the seller
  pub largest_bought : position (after (thousands 100)) 0 1 ≡ pos 100000
  pub larger_bought : number_after (thousands 100) (trade 1 3 1) ≡ 8
  pub largest_sold : position (after (thousands 100)) 0 2 ≡ neg_ℤ (pos 100000)
  pub larger_sold : number_after (thousands 100) (trade 3 2 1) ≡ 8
