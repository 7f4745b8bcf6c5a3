-- `line_fields::amount` meets its contract.
use mathlib.Core.Path.{ap, ◌∙◌}
use Prim.Native.Nat.{ℕ, ◌/◌, ◌%◌}
use native.Mathlib.Omega.{arith}
use lib.IntN.{nat_abs}
use mir.Syntax.{w64}
use Rattle.decimal.specs.Text.{decimal, two_digits}
use Rattle.integer.proofs.Machine.{any}
use Rattle.report.specs.Lines.{sign, amount_text}
use Rattle.report.proofs.Fields.{◌then◌, text_of, roubles_length}
use Rattle.line_fields.proofs.amount.Goals as goal

pub digits-point-requires : goal.digits-point-requires
digits-point-requires c =
    let known = c.magnitude-kopecks in
    omega (arith, roubles_length known.result known.ensures.1)

pub byte-rest-requires : goal.byte-rest-requires
byte-rest-requires c =
    let known = c.magnitude-kopecks in
    omega (arith, roubles_length known.result known.ensures.1)

pub two_digits-requires : goal.two_digits-requires
two_digits-requires c =
    let known = c.magnitude-kopecks in
    (omega (arith, roubles_length known.result known.ensures.1), omega arith)

pub returns-clause-put : goal.returns-clause-put
unfolding amount_text
returns-clause-put c =
    let same = (any w64 c.ranges.z).is in
    let bare = c.magnitude-kopecks.ensures.0 ∙ ap nat_abs same in
    text_of sign same c.put_sign-next.ensures.put
    then text_of (λ (n : ℕ). decimal (n / 100)) bare c.digits-point.ensures
    then c.byte-rest.ensures
    then text_of (λ (n : ℕ). two_digits (n % 100)) bare c.two_digits.ensures

pub returns-clause-upper_bound : goal.returns-clause-upper_bound
returns-clause-upper_bound c =
    let known = c.magnitude-kopecks in
    omega (arith, roubles_length known.result known.ensures.1)
