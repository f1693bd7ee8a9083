use Rattle.std.proofs.Common.{◌≡◌, fold, map, take}
use Rattle.rows.specs.Rows.{placed_row}
use Rattle.naming.specs.Index.{indexed}
use Rattle.station.specs.Station.{station}
use Rattle.reading.specs.Tables.{add_row}
use Rattle.reading.proofs.entries.Source.add_rows.Given as goal

abbrev pub invariant-loop-row : goal.invariant-loop-row
invariant-loop-row l =
    let rows = l.self.rows.now in
    station l.tables ≡ fold (λ t r. add_row (indexed l.self.index.now) (map placed_row rows) t (placed_row r)) (station l.initial.tables) (take l.row-index rows)
