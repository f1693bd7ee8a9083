use Rattle.std.proofs.Common.{◌∙◌}
use Rattle.station.specs.Station.{station}
use Rattle.lock_rules.proofs.Told.{asks_first}
use Rattle.lock_rules.proofs.release.Release.asks_before.Goals as goal

pub returns-else-k-gt0 : goal.returns-else-k-gt0
returns-else-k-gt0 c =
    c.asks_unset.ensures ∙ asks_first (station c.args.self.now.tables.now) c.args.self.now.tests.now c.args.route c.args.k c.if-k-gt0.false
