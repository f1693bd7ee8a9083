use Rattle.std.proofs.Common.{◌≡◌, false, eqb, arith}
use Rattle.std.proofs.lemmas.Bool.Decides.{nat_tests}
use Rattle.std.proofs.lemmas.Result.{err_from_is_err_and}
use Rattle.track.specs.Meaning.{laid}
use Rattle.holding.specs.Seen.{count_at}
use Rattle.holding.proofs.Points.{settle_denied, settles_held, settles_seen, within}
use Rattle.delay.proofs.calls.DelayTrackside.settle.Goals as goal

pub returns-in_err-p-clause-every : goal.returns-in_err-p-clause-every
returns-in_err-p-clause-every g c =
    let d = c.args.self.now in
    let p = err_from_is_err_and c.from_residual.result c.from_residual.ensures.1 in
    rw (p.1, p.2) (settle_denied (laid c.args.station.now) (g.T.Trackside.meaning d.below) d.holding.counts d.holding.derailed c.args.point _ c.in_err-p.ensures)

pub returns-then-not-holds_back-clause-every : goal.returns-then-not-holds_back-clause-every
returns-then-not-holds_back-clause-every g c =
    let d = c.args.self.now in
    let s = laid c.args.station.now in
    let m = g.T.Trackside.meaning d.below in
    let none : count_at d.holding.counts c.args.point ≡ 0 = grind (arith, nat_tests) in
    let low = within s m d.holding.counts d.holding.derailed c.args.point c.in_ok-p.p c.in_ok-p.ensures (g.met.T.Trackside.few d.below) d.holding.points in
    settles_seen s m d.holding.counts d.holding.derailed c.args.point none low c.settle.ensures

pub returns-clause-every : goal.returns-clause-every
returns-clause-every g c =
    let d = c.args.self.now in
    let some : eqb (count_at d.holding.counts c.args.point) 0 ≡ false = grind (arith, nat_tests) in
    settles_held (laid c.args.station.now) (g.T.Trackside.meaning d.below) d.holding.counts d.holding.derailed c.args.point c.in_ok-p.p c.in_ok-p.ensures
    (g.met.T.Trackside.few d.below) d.holding.points some _ c.take_one.ensures.counts _ c.take_one.ensures.same c.seen_point.result c.seen_point.ensures
