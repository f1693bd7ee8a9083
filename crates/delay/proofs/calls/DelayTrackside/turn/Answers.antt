use Rattle.std.proofs.Common.{rules}
use Rattle.std.proofs.lemmas.Result.{err_from_is_err_and}
use Rattle.track.specs.Meaning.{laid}
use Rattle.delay.proofs.Moved.{turn_goes, turn_refused, turn_stops}
use Rattle.delay.proofs.calls.DelayTrackside.turn.Goals as goal

pub returns-in_err-t-clause-every : goal.returns-in_err-t-clause-every
returns-in_err-t-clause-every g c =
    let d = c.args.self.now in
    let p = err_from_is_err_and c.from_residual.result c.from_residual.ensures.1 in
    rw (p.1, p.2) (turn_refused (laid c.args.station.now) (g.T.Trackside.meaning d.below) d.holding c.args.train _ c.in_err-t.ensures)

pub returns-in_err-follow-clause-every : goal.returns-in_err-follow-clause-every
returns-in_err-follow-clause-every g c =
    let d = c.args.self.now in
    let is = rw c.tables.ensures.tables at c.course-course.ensures in
    let p = err_from_is_err_and c.from_residual-in_err-follow.result c.from_residual-in_err-follow.ensures.1 in
    rw (p.1, p.2) (turn_stops (laid c.args.station.now) (g.T.Trackside.meaning d.below) d.holding c.args.train c.in_ok-t.t c.in_ok-t.ensures
    c.course-course.result c.follow.new.holding c.follow.ensures.derailed c.follow.ensures.same c.held_ways.ensures is _ c.in_err-follow.ensures.answers)

pub returns-clause-every : goal.returns-clause-every
returns-clause-every g c =
    let d = c.args.self.now in
    let is = rw c.tables.ensures.tables at c.course-course.ensures in
    turn_goes (laid c.args.station.now) (g.T.Trackside.meaning d.below) d.holding c.args.train c.in_ok-t.t c.in_ok-t.ensures
    c.course-course.result c.follow.new.holding c.follow.ensures.derailed c.follow.ensures.same c.held_ways.ensures is c.in_ok-follow.ensures.answers (search rules)
