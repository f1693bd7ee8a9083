use Rattle.std.proofs.Common.{rules}
use Rattle.track.specs.Meaning.{laid}
use Rattle.holding.proofs.Points.{point_answered}
use Rattle.delay.proofs.calls.DelayTrackside.point.Goals as goal

pub returns : goal.returns
returns g c =
    let d = c.args.self.now in
    point_answered (laid c.args.station.now) (g.T.Trackside.meaning d.below) d.holding.counts d.holding.derailed c.args.point c.point.result c.map.result c.point.ensures (search rules)
