use Rattle.std.proofs.lemmas.Result.{err_from_is_err_and}
use Rattle.track.specs.Meaning.{laid}
use Rattle.delay.proofs.Moved.{rear_goes, rear_refused, rear_stops}
use Rattle.delay.proofs.calls.DelayTrackside.rear.Goals as goal

pub returns-in_err-t-clause-every : goal.returns-in_err-t-clause-every
returns-in_err-t-clause-every g c =
    let d = c.args.self.now in
    let p = err_from_is_err_and c.from_residual.result c.from_residual.ensures.1 in
    rw (p.1, p.2) (rear_refused (laid c.args.station.now) (g.T.Trackside.meaning d.below) d.holding c.args.train _ c.in_err-t.ensures)

pub returns-in_default-clause-every : goal.returns-in_default-clause-every
returns-in_default-clause-every g c =
    let d = c.args.self.now in
    rear_stops (laid c.args.station.now) (g.T.Trackside.meaning d.below) d.holding c.args.train c.in_ok-t.t c.in_ok-t.ensures c.rear_course.result c.rear_course.ensures c.in_default.not-Down

pub returns-clause-every : goal.returns-clause-every
returns-clause-every g c =
    let d = c.args.self.now in
    rear_goes (laid c.args.station.now) (g.T.Trackside.meaning d.below) d.holding c.args.train c.in_ok-t.t c.in_ok-t.ensures c.in-Down.ensures c.rear.ensures
