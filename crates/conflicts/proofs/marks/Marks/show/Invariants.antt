use Rattle.std.proofs.Common.{◌≡◌}
use Rattle.station.specs.Station.{station}
use Rattle.conflicts.proofs.Shown.{ShowsTo}
use Rattle.conflicts.proofs.marks.Marks.show.Given as goal

abbrev pub invariant-loop-k : goal.invariant-loop-k
invariant-loop-k l =
    (l.self.saved ≡ l.initial.self.saved)
    × (l.self.board.ghost_name ≡ l.initial.self.board.ghost_name)
    × ShowsTo l.self.board.now (station l.tables) l.route l.k
