use Rattle.holding.proofs.Points.{shows_seen}
use Rattle.delay.proofs.calls.DelayTrackside.show.Goals as goal

pub returns-clause-every : goal.returns-clause-every
returns-clause-every g c = shows_seen _ _ _ _ c.show.ensures
