-- `apply::set_decline` meets its contract.
use Rattle.book.proofs.Effects.{fits_request, fits_waiver}
use Rattle.apply.proofs.set_decline.Goals as goal

pub decline-requires : goal.decline-requires
decline-requires c =
    let f = fits_request (rw c.in-Requested.is at c.requires) in
    (f.account, f.section)

pub decline-requires-in-Declined : goal.decline-requires-in-Declined
decline-requires-in-Declined c =
    let f = fits_waiver (rw c.in-Declined.is at c.requires) in
    (f.account, f.section)

pub returns-in-Requested : goal.returns-in-Requested
returns-in-Requested c = rw c.in-Requested.is c.decline.ensures

pub returns-in-Declined : goal.returns-in-Declined
returns-in-Declined c = rw c.in-Declined.is c.decline-in-Declined.ensures
