-- `style::put_blank` meets its contract.
use Rattle.contract.proofs.StyleField as field
use Rattle.style.proofs.put_blank.Goals as goal

pub byte-requires : goal.byte-requires
byte-requires c = search field.blank_fits

pub returns-in-Blank : goal.returns-in-Blank
returns-in-Blank c = search field.put_one

pub returns-in-NoBlank : goal.returns-in-NoBlank
returns-in-NoBlank c = search field.put_none
