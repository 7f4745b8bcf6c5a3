use Rattle.std.proofs.Common.{◌≡◌, ◌*◌, ◌%◌, ◌^◌, ◌≤◌}
use Rattle.full_day.specs.Day as rule
use Rattle.full_day.proofs.full_day_trades.Given as goal

abbrev pub invariant-loop : goal.invariant-loop
invariant-loop l = (l.carried_out ≡ l.counter * (rule.traded).trades % 2 ^ 64) × (l.counter ≤ l.days)
