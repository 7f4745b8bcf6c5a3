-- `apply::set_request` meets its contract.
use native.Mathlib.Omega.{arith}
use Rattle.book.proofs.Effects.{fits_request, fits_waiver}
use Rattle.apply.proofs.set_request.Goals as goal

pub overflow_cast-r : goal.overflow_cast-r
overflow_cast-r c =
    let f = fits_request (rw c.in-Requested.is at c.requires) in
    omega (arith, f.quantity)

pub request-requires : goal.request-requires
request-requires c =
    let f = fits_request (rw c.in-Requested.is at c.requires) in
    (f.account, f.section)

pub request-requires-in-Declined : goal.request-requires-in-Declined
request-requires-in-Declined c =
    let f = fits_waiver (rw c.in-Declined.is at c.requires) in
    (f.account, f.section)

pub returns-in-Requested : goal.returns-in-Requested
returns-in-Requested c = rw c.in-Requested.is c.request.ensures

pub returns-in-Declined : goal.returns-in-Declined
returns-in-Declined c = rw c.in-Declined.is c.request-in-Declined.ensures
