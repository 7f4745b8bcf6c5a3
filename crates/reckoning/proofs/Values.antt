-- The values and splits (RULES, "Values and splits") hold: each is computed (specs/Values.antt).
use mathlib.Core.Path.{refl}
use Rattle.choice.specs.Choice.{choose}
use Rattle.exercise.specs.Assignment.{rank, assigned}
use Rattle.exercise.specs.Evening as evening
use Rattle.exercise.specs.Exercise.{in_the_money, half, automatic, exercised}
use Rattle.integer.specs.Sum.{sumℕ, sum_to}
use Rattle.integer.specs.Table.{table}
use Rattle.places.specs.Places.{place_in, of_account, gross}
use Rattle.series.specs.Refusals.{number}
use Rattle.series.specs.Conditions.{gross_after, passes_limit}
use Rattle.value.specs.Rounding.{nearest}
use Rattle.book.specs.Answers.{answer_number}
use Rattle.book.specs.Step.{decided, run}
use Rattle.book.specs.Verdicts.{and_then, first_from, needs_mark}
use Rattle.reckoning.specs.Values.{ValuesAndSplits}

pub values_and_splits : ValuesAndSplits
unfolding nearest in_the_money half automatic exercised assigned rank evening.shrunk evening.futures evening.remaining evening.arisen sumℕ sum_to table place_in of_account gross gross_after choose passes_limit and_then first_from needs_mark decided run answer_number number
values_and_splits =
    record {
      coefficient_100000_100 = refl;
      coefficient_100000_3 = refl;
      coefficient_50000_100 = refl;
      coefficient_923456_1 = refl;
      value_92345600_317 = refl;
      value_3333333_1000000 = refl;
      value_50000_1 = refl;
      value_50000_2 = refl;
      half_call = refl;
      half_put = refl;
      fives_first = refl;
      fives_second = refl;
      fives_futures = refl;
      ten_in_one = refl;
      ten_futures = refl;
      split_3 = refl;
      split_2 = refl;
      largest_quantity = refl;
      larger_quantity = refl;
      largest_bought = refl;
      larger_bought = refl;
      largest_sold = refl;
      larger_sold = refl;
    }
