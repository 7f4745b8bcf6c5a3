-- The table of refusals holds (specs/Numbers.antt).
use mathlib.Core.Path.{refl}
use Rattle.contract.specs.Code as code
use Rattle.series.specs.Refusals.{number}
use Rattle.rows.specs.Numbers.{RefusalTable}
use Rattle.rows.specs.Row as row

pub refusal_table : RefusalTable
unfolding number code.number row.number
refusal_table =
    record {
      finished = refl;
      unknown_series = refl;
      expired = refl;
      unknown_account = refl;
      own_trade = refl;
      size = refl;
      price = refl;
      position_limit = refl;
      blotter_full = refl;
      terms = refl;
      series_full = refl;
      not_today = refl;
      not_held = refl;
      tick_value = refl;
      second_intraday = refl;
      no_mark = λ i. refl;
      code = refl;
      date = refl;
      strike_text = refl;
      row = refl;
      calendar = refl;
      no_trading_date = refl;
      unknown_section = refl;
    }
