-- What stands at a number of a table: past its end, a thing whose numbers are 0 and whose rows are empty.
use Rattle.std.specs.Prelude.{ℕ, List, [], Some, None, Option, slice_index_or}
use Rattle.station.specs.declared.tests.ReleaseTest.{ReleaseTest}
use Rattle.station.specs.declared.tables.Beyond.TheVariants.{Segment}
use Rattle.station.specs.declared.tables.Signal.{Signal}
use Rattle.station.specs.Station.{Station, JointEntry, PointEntry, WayEntry, RouteEntry, ZoneEntry}

abbrev pub no_joint : JointEntry
no_joint = record { name = []; segment = 0; beyond = Segment 0 }

abbrev pub no_point : PointEntry
no_point = record { name = []; home = 0; normal = []; reverse = [] }

abbrev pub no_way : WayEntry
no_way = record { segment = 0; from = 0; to = 0; settings = [] }

abbrev pub no_signal : Signal
no_signal = record { joint = 0; segment = 0 }

abbrev pub no_route : RouteEntry
no_route = record { name = []; tests = []; actions = []; activation = [] }

abbrev pub no_zone : ZoneEntry
no_zone = record { name = []; tests = [] }

abbrev pub joint_at : Station → ℕ → JointEntry
joint_at s j = slice_index_or s.joints j no_joint

abbrev pub point_at : Station → ℕ → PointEntry
point_at s p = slice_index_or s.points p no_point

abbrev pub way_at : Station → ℕ → WayEntry
way_at s w = slice_index_or s.ways w no_way

abbrev pub signal_at : Station → ℕ → Signal
signal_at s n = slice_index_or s.signals n no_signal

abbrev pub route_at : Station → ℕ → RouteEntry
route_at s r = slice_index_or s.routes r no_route

abbrev pub zone_at : Station → ℕ → ZoneEntry
zone_at s z = slice_index_or s.zones z no_zone

-- the tests of a release row; one that the text lacks has none
abbrev pub row_tests : Option (List ReleaseTest) → List ReleaseTest
row_tests None = []
row_tests (Some ts) = ts

abbrev pub release_at : Station → ℕ → List ReleaseTest
release_at s u = row_tests (slice_index_or s.releases u None)
