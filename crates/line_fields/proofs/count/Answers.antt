-- `line_fields::count` meets its contract.
use mathlib.Core.Path.{ap, ◌∙◌}
use native.Mathlib.Omega.{arith}
use lib.IntN.{nat_abs}
use mir.Syntax.{w64}
use Rattle.decimal.specs.Text.{decimal}
use Rattle.integer.proofs.Machine.{any}
use Rattle.report.specs.Lines.{sign, count_text}
use Rattle.report.proofs.Fields.{◌then◌, text_of, magnitude_length}
use Rattle.line_fields.proofs.count.Goals as goal

pub digits-requires : goal.digits-requires
digits-requires c =
    let known = c.magnitude-contracts in
    omega (arith, magnitude_length known.result known.ensures.1)

pub returns-clause-put : goal.returns-clause-put
unfolding count_text
returns-clause-put c =
    let same = (any w64 c.ranges.z).is in
    let bare = c.magnitude-contracts.ensures.0 ∙ ap nat_abs same in
    text_of sign same c.put_sign-next.ensures.put then text_of decimal bare c.digits.ensures

pub returns-clause-upper_bound : goal.returns-clause-upper_bound
returns-clause-upper_bound c =
    let known = c.magnitude-contracts in
    omega (arith, magnitude_length known.result known.ensures.1)
