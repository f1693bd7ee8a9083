use Rattle.std.proofs.lemmas.Result.{err_from_is_err_and}
use Rattle.track.specs.Meaning.{laid}
use Rattle.holding.proofs.Points.{drive_denied, drives_seen}
use Rattle.delay.proofs.calls.DelayTrackside.drive.Goals as goal

pub returns-in_err-p-clause-every : goal.returns-in_err-p-clause-every
returns-in_err-p-clause-every g c =
    let d = c.args.self.now in
    let p = err_from_is_err_and c.from_residual.result c.from_residual.ensures.1 in
    rw (p.1, p.2) (drive_denied (laid c.args.station.now) (g.T.Trackside.meaning d.below) d.holding.counts d.holding.derailed c.args.point c.args.to _ c.in_err-p.ensures)

pub returns-clause-every : goal.returns-clause-every
returns-clause-every g c =
    let d = c.args.self.now in
    drives_seen (laid c.args.station.now) (g.T.Trackside.meaning d.below) d.holding.counts d.holding.derailed c.args.point c.in_ok-p.p c.in_ok-p.ensures
    (g.met.T.Trackside.few d.below) d.holding.points d.settlings c.args.to _ _ c.driven.ensures.counts c.driven.ensures.same c.in_ok-drive.ensures
