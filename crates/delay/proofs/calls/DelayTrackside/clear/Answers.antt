use Rattle.std.proofs.Common.{◌∙◌}
use Rattle.track.specs.Meaning.{laid}
use Rattle.holding.proofs.Trains.{clear_seen}
use Rattle.delay.proofs.calls.DelayTrackside.clear.Goals as goal

pub returns : goal.returns
returns g c =
    let d = c.args.self.now in
    c.clear.ensures ∙ clear_seen (laid c.args.station.now) (g.T.Trackside.meaning d.below) d.holding.counts d.holding.derailed c.args.segment
