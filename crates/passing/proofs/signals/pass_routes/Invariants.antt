use Rattle.std.proofs.Common.{◌≡◌}
use Rattle.passing.specs.Signals.{passed_routes}
use Rattle.station.specs.Station.{station}
use Rattle.passing.proofs.signals.pass_routes.Given as goal

abbrev pub invariant-loop-r : goal.invariant-loop-r
invariant-loop-r l = l.states ≡ passed_routes (station l.tables) l.signal l.initial.states l.r
