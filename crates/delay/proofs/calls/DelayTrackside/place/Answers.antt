use Rattle.std.proofs.Common.{rules}
use Rattle.track.specs.Meaning.{laid}
use Rattle.holding.proofs.Trains.{place_answered}
use Rattle.delay.proofs.calls.DelayTrackside.place.Goals as goal

pub returns : goal.returns
returns g c =
    let d = c.args.self.now in
    place_answered (laid c.args.station.now) (g.T.Trackside.meaning d.below) d.holding.counts d.holding.derailed c.args.train c.place.result c.map.result c.place.ensures (search rules)
