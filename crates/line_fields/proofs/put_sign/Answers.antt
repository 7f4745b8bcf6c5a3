-- `line_fields::put_sign` meets its contract.
use lib.IntN.{pos}
use mir.Syntax.{w64}
use Rattle.integer.proofs.Machine.{any, lit, less}
use Rattle.report.proofs.Fields.{minus_put, no_sign_put}
use Rattle.line_fields.proofs.put_sign.Goals as goal

pub returns-then-z-lt0-clause-put : goal.returns-then-z-lt0-clause-put
returns-then-z-lt0-clause-put c = minus_put c.args.z (less (any w64 c.ranges.z) (lit (pos 0)) c.if-z-lt0.true) c.byte.ensures

pub returns-clause-put : goal.returns-clause-put
returns-clause-put c = no_sign_put _ _ c.args.z (less (any w64 c.ranges.z) (lit (pos 0)) c.if-z-lt0.false)
