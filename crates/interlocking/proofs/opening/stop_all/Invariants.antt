use Rattle.std.proofs.Common.{◌≡◌, true}
use Rattle.track.specs.Meaning.{fits, laid}
use Rattle.interlocking.proofs.Stops.{Stopped}
use Rattle.interlocking.proofs.opening.stop_all.Given as goal

abbrev pub invariant-loop-i : goal.invariant-loop-i
invariant-loop-i g l =
    fits (laid l.station) (g.T.Trackside.meaning l.initial.track) ≡ true → Stopped (g.T.Trackside.meaning l.initial.track) l.i (g.T.Trackside.meaning l.track)
