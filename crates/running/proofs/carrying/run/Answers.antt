use Rattle.std.proofs.Common.{rules}
use Rattle.running.proofs.Logs.{safe_log}
use Rattle.track.specs.Meaning.{laid}
use Rattle.running.proofs.carrying.run.Goals as goal

pub returns-clause-carried : goal.returns-clause-carried
returns-clause-carried g c =
    safe_log (laid c.args.station.now) c.args.station.now.ok (g.T.Trackside.meaning c.args.track) (g.met.T.Trackside.sixteen c.args.track) (search rules) _ (search rules) _ _ _ c.carry_out.ensures
