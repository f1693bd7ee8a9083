-- The tables of a list of rows: each row adds what it declares at the end of its table.
use Rattle.std.specs.Prelude.{ℕ, ◌+◌, ◌*◌, List, [], ◌∷◌, ◌++◌, fold, length, Option}
use Rattle.forms.specs.Things.{Spot}
use Rattle.rows.specs.Rows.{Row, segment_row, joint_row, point_row, way_row, signal_row, request_row, activation_row, move_row, release_row, zone_row}
use Rattle.naming.specs.Index.{Index, index_of}
use Rattle.station.specs.declared.tables.Signal.{Signal}
use Rattle.station.specs.declared.tests.ReleaseTest.{ReleaseTest}
use Rattle.station.specs.Station.{Station, JointEntry, PointEntry, WayEntry, RouteEntry, ZoneEntry, empty}
use Rattle.reading.specs.Entries.{joint_for, point_for, way_for, signal_for, route_for, release_for, zone_for}

abbrev pub add_segment : Station → List ℕ → Station
add_segment t x = record { segments = t.segments ++ x ∷ []; joints = t.joints; points = t.points; ways = t.ways; signals = t.signals; routes = t.routes; releases = t.releases; zones = t.zones }

abbrev pub add_joint : Station → JointEntry → Station
add_joint t x = record { segments = t.segments; joints = t.joints ++ x ∷ []; points = t.points; ways = t.ways; signals = t.signals; routes = t.routes; releases = t.releases; zones = t.zones }

abbrev pub add_point : Station → PointEntry → Station
add_point t x = record { segments = t.segments; joints = t.joints; points = t.points ++ x ∷ []; ways = t.ways; signals = t.signals; routes = t.routes; releases = t.releases; zones = t.zones }

-- a way has two subroutes
abbrev pub add_way : Station → WayEntry → Option (List ReleaseTest) → Option (List ReleaseTest) → Station
add_way t x u v = record { segments = t.segments; joints = t.joints; points = t.points; ways = t.ways ++ x ∷ []; signals = t.signals; routes = t.routes; releases = (t.releases ++ u ∷ []) ++ v ∷ []; zones = t.zones }

abbrev pub add_signal : Station → Signal → Station
add_signal t x = record { segments = t.segments; joints = t.joints; points = t.points; ways = t.ways; signals = t.signals ++ x ∷ []; routes = t.routes; releases = t.releases; zones = t.zones }

abbrev pub add_route : Station → RouteEntry → Station
add_route t x = record { segments = t.segments; joints = t.joints; points = t.points; ways = t.ways; signals = t.signals; routes = t.routes ++ x ∷ []; releases = t.releases; zones = t.zones }

abbrev pub add_zone : Station → ZoneEntry → Station
add_zone t x = record { segments = t.segments; joints = t.joints; points = t.points; ways = t.ways; signals = t.signals; routes = t.routes; releases = t.releases; zones = t.zones ++ x ∷ [] }

-- what a row adds; activation, point and release rows belong to what other rows declare
abbrev pub add_row : Index → List (Row Spot) → Station → Row Spot → Station
add_row ix rows t (segment_row x) = add_segment t x.1
add_row ix rows t (joint_row x s f) = add_joint t (joint_for ix x s f)
add_row ix rows t (point_row x s) = add_point t (point_for ix rows x s)
add_row ix rows t (way_row s a b ps) =
    add_way t (way_for ix s a b ps) (release_for ix rows (length t.ways * 2) a b) (release_for ix rows (length t.ways * 2 + 1) b a)
add_row ix rows t (signal_row j s) = add_signal t (signal_for ix j s)
add_row ix rows t (request_row x ts us) = add_route t (route_for ix rows x ts us)
add_row ix rows t (activation_row x ts) = t
add_row ix rows t (move_row x p ts) = t
add_row ix rows t (release_row a b ts) = t
add_row ix rows t (zone_row x ts) = add_zone t (zone_for ix x ts)

-- one row after another, in a text that has all of `rows`
abbrev pub add_rows : Index → List (Row Spot) → Station → List (Row Spot) → Station
add_rows ix rows t rs = fold (add_row ix rows) t rs

abbrev pub tables_of : List (Row Spot) → Station
tables_of rows = add_rows (index_of rows) rows empty rows
