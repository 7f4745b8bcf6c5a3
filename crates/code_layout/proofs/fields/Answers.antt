-- `code_layout::fields` meets its contract.
use Rattle.contract.proofs.Steps.{fields}
use Rattle.contract.specs.Code.{layout_at}
use mathlib.Core.Path.{refl}
use Rattle.contract.proofs.Scanning.{scanned_next}
use Rattle.contract.proofs.DateField.{dated}
use Rattle.contract.proofs.KindField.{kinded}
use Rattle.contract.proofs.StyleField.{styled}
use Rattle.contract.proofs.StrikeField.{struck, unstruck}
use Rattle.code_layout.proofs.fields.Goals as goal

pub returns-in_default : goal.returns-in_default
unfolding layout_at
returns-in_default c = search fields depth 14

pub returns-in_default-expect : goal.returns-in_default-expect
unfolding layout_at
returns-in_default-expect c = search fields depth 14

pub returns-in_default-digits : goal.returns-in_default-digits
unfolding layout_at
returns-in_default-digits c = search fields depth 14

pub returns-in_default-letters : goal.returns-in_default-letters
unfolding layout_at
returns-in_default-letters c = search fields depth 14

pub returns-in_default-blank : goal.returns-in_default-blank
unfolding layout_at
returns-in_default-blank c = search fields depth 14

-- here and below `search` does not look as far back as the first field: its steps are written out
pub returns-in_default-last : goal.returns-in_default-last
unfolding layout_at
returns-in_default-last c =
    scanned_next _ _ _ _ _ _ c.leading.ensures c.in-Some.is
    (scanned_next _ _ _ _ _ _ c.expect.ensures c.in-Some-expect.is
    (dated _ _ _ _ _ _ _ c.digits.ensures c.in-Some-digits.is
    (kinded _ _ _ _ _ _ _ _ c.letters.ensures c.in-Some-letters.is
    (styled _ _ _ _ _ _ _ c.blank.ensures c.in-Some-blank.is
    (unstruck _ _ _ _ _ c.last.ensures c.in_default-last.is refl)))))

pub returns : goal.returns
unfolding layout_at
returns c =
    scanned_next _ _ _ _ _ _ c.leading.ensures c.in-Some.is
    (scanned_next _ _ _ _ _ _ c.expect.ensures c.in-Some-expect.is
    (dated _ _ _ _ _ _ _ c.digits.ensures c.in-Some-digits.is
    (kinded _ _ _ _ _ _ _ _ c.letters.ensures c.in-Some-letters.is
    (styled _ _ _ _ _ _ _ c.blank.ensures c.in-Some-blank.is
    (struck _ _ _ _ _ _ c.last.ensures c.in-Some-last.is refl)))))
