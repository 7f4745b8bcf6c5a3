-- `answers::refusal_number` meets its contract.
use Rattle.series.specs.Refusals.{number}
use Rattle.answers.proofs.refusal_number.Goals as goal

pub returns-in-Finished : goal.returns-in-Finished
unfolding number
returns-in-Finished c = rw c.in-Finished.is

pub returns-in-UnknownSeries : goal.returns-in-UnknownSeries
unfolding number
returns-in-UnknownSeries c = rw c.in-UnknownSeries.is

pub returns-in-Expired : goal.returns-in-Expired
unfolding number
returns-in-Expired c = rw c.in-Expired.is

pub returns-in-UnknownAccount : goal.returns-in-UnknownAccount
unfolding number
returns-in-UnknownAccount c = rw c.in-UnknownAccount.is

pub returns-in-UnknownSection : goal.returns-in-UnknownSection
unfolding number
returns-in-UnknownSection c = rw c.in-UnknownSection.is

pub returns-in-OwnTrade : goal.returns-in-OwnTrade
unfolding number
returns-in-OwnTrade c = rw c.in-OwnTrade.is

pub returns-in-Size : goal.returns-in-Size
unfolding number
returns-in-Size c = rw c.in-Size.is

pub returns-in-Price : goal.returns-in-Price
unfolding number
returns-in-Price c = rw c.in-Price.is

pub returns-in-PositionLimit : goal.returns-in-PositionLimit
unfolding number
returns-in-PositionLimit c = rw c.in-PositionLimit.is

pub returns-in-BlotterFull : goal.returns-in-BlotterFull
unfolding number
returns-in-BlotterFull c = rw c.in-BlotterFull.is

pub returns-in-Terms : goal.returns-in-Terms
unfolding number
returns-in-Terms c = rw c.in-Terms.is

pub returns-in-SeriesFull : goal.returns-in-SeriesFull
unfolding number
returns-in-SeriesFull c = rw c.in-SeriesFull.is

pub returns-in-NotToday : goal.returns-in-NotToday
unfolding number
returns-in-NotToday c = rw c.in-NotToday.is

pub returns-in-NotHeld : goal.returns-in-NotHeld
unfolding number
returns-in-NotHeld c = rw c.in-NotHeld.is

pub returns-in-TickValue : goal.returns-in-TickValue
unfolding number
returns-in-TickValue c = rw c.in-TickValue.is

pub returns-in-SecondIntraday : goal.returns-in-SecondIntraday
unfolding number
returns-in-SecondIntraday c = rw c.in-SecondIntraday.is

pub returns-in-NoMark : goal.returns-in-NoMark
unfolding number
returns-in-NoMark c = rw c.in-NoMark.is
