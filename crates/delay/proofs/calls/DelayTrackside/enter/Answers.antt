use Rattle.std.proofs.lemmas.Result.{err_from_is_err_and}
use Rattle.track.specs.Meaning.{laid}
use Rattle.holding.proofs.Trains.{enter_denied, enters_seen}
use Rattle.delay.proofs.calls.DelayTrackside.enter.Goals as goal

pub returns-in_err-enter-clause-every : goal.returns-in_err-enter-clause-every
returns-in_err-enter-clause-every g c =
    let d = c.args.self.now in
    let p = err_from_is_err_and c.from_residual.result c.from_residual.ensures.1 in
    rw (p.1, p.2) (enter_denied (laid c.args.station.now) (g.T.Trackside.meaning d.below) d.holding.counts d.holding.derailed c.args.train c.args.signal _ _ c.in_err-enter.ensures)

pub returns-clause-every : goal.returns-clause-every
returns-clause-every g c =
    let d = c.args.self.now in
    enters_seen (laid c.args.station.now) (g.T.Trackside.meaning d.below) d.holding.counts d.holding.derailed c.args.train c.args.signal
    (g.T.Trackside.meaning c.enter.new.self) d.holding.trains c.in_ok-enter.ensures _ _ c.mark.ensures.same c.mark.ensures.derailed
