-- `code_fields::kind::category_letter` meets its contract.
use borrow.Author.Rules.{rules}
use Rattle.contract.specs.Kind.{category_byte}
use Rattle.code_fields.proofs.kind.category_letter.Goals as goal

pub returns-in-American : goal.returns-in-American
unfolding category_byte
returns-in-American c = search rules

pub returns-in-European : goal.returns-in-European
unfolding category_byte
returns-in-European c = search rules
