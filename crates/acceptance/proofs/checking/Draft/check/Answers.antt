use Rattle.std.proofs.Common.{sym}
use Rattle.acceptance.proofs.Verdicts.{sound_none}
use Rattle.acceptance.proofs.checking.Draft.check.Goals as goal

pub returns-in-None-clause-rules : goal.returns-in-None-clause-rules
returns-in-None-clause-rules c = sound_none _ (sym c.in-None.ensures.value)
