-- `code_fields::kind::type_letter` meets its contract.
use borrow.Author.Rules.{rules}
use Rattle.contract.specs.Kind.{type_byte}
use Rattle.code_fields.proofs.kind.type_letter.Goals as goal

pub returns-in-Call : goal.returns-in-Call
unfolding type_byte
returns-in-Call c = search rules

pub returns-in-Put : goal.returns-in-Put
unfolding type_byte
returns-in-Put c = search rules
