-- `code_fields::kind::put_letters` meets its contract.
use Rattle.contract.proofs.KindField.{put_kind}
use Rattle.code_fields.proofs.kind.put_letters.Goals as goal

pub returns : goal.returns
returns c = search put_kind
