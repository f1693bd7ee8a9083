use Rattle.acceptance.proofs.Consequences.{consequences}
use Rattle.acceptance.proofs.Verdicts.{sound_keeps}
use Rattle.acceptance.proofs.accepted.Accepted.facts.Goals as goal

pub returns : goal.returns
returns c =
    record { rules = sound_keeps _ c.args.self.now.ok; follows = consequences _ c.args.self.now.ok }
