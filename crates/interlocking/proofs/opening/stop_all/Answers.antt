use Rattle.std.proofs.Common.{◌≡◌, ◌<◌, length, vec_items, refl, ap, ◌∙◌, arith}
use Rattle.track.specs.Meaning.{laid}
use Rattle.interlocking.proofs.Stops.{stopped_all, stopped_more}
use Rattle.interlocking.proofs.opening.stop_all.Goals as goal

pub loop-i-init : goal.loop-i-init
loop-i-init g c = λ fit. refl

pub loop-i-preserved : goal.loop-i-preserved
loop-i-preserved g c =
    let s = laid c.args.station.now in
    let n : c.signal_count-i-end.result ≡ length s.signals = c.signal_count-i-end.ensures ∙ ap (λ t. length (vec_items t.signals)) c.tables.ensures.tables in
    let l : c.loop-i.i < length s.signals = omega (arith, n, c.loop-i-test.true) in
    λ fit. stopped_more s (g.T.Trackside.meaning c.args.track.now) fit c.loop-i.i _ _ l (c.loop-i.invariant fit) c.show.ensures.leaves

pub returns : goal.returns
returns g c =
    let s = laid c.args.station.now in
    let n : c.signal_count-i-end.result ≡ length s.signals = c.signal_count-i-end.ensures ∙ ap (λ t. length (vec_items t.signals)) c.tables.ensures.tables in
    let e : c.loop-i.i ≡ length s.signals = omega (arith, n, c.loop-i-test.false, c.loop-i.auto.i-end) in
    λ fit. stopped_all s (g.T.Trackside.meaning c.args.track.now) fit c.loop-i.i _ e (c.loop-i.invariant fit)
