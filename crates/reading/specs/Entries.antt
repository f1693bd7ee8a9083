-- What each row declares, with names as numbers.
use Rattle.std.specs.Prelude.{ℕ, cond, List, [], map, find, filter_map, None, Option, ◌==◌}
use Rattle.std.specs.Borrow.{Bor}
use Rattle.std.specs.Option.{option_map, unwrap_or}
use Rattle.forms.specs.Things.{Spot}
use Rattle.rows.specs.declared.filters.Kind.{Kind}
use Rattle.rows.specs.declared.filters.Kind.TheVariants as kind
use Rattle.rows.specs.declared.rows.Pair as pair_type
use Rattle.rows.specs.Filters.{named}
use Rattle.rows.specs.Rows.{Pair, placed_pair, Far, far_segment, far_outside, far_buffer, Row, tests_of}
use Rattle.naming.specs.Index.{Index, segment_number, joint_number, subroute_number}
use Rattle.station.specs.declared.tables.Beyond.{Beyond}
use Rattle.station.specs.declared.tables.Beyond.TheVariants.{Segment, Outside, BufferStop}
use Rattle.station.specs.declared.tables.Signal.{Signal}
use Rattle.station.specs.declared.tests.PointTest.{PointTest}
use Rattle.station.specs.declared.tests.ReleaseTest.{ReleaseTest}
use Rattle.station.specs.Station.{JointEntry, PointEntry, WayEntry, RouteEntry, ZoneEntry}
use Rattle.reading.specs.Resolve.{setting_of, request_test_of, action_of, activation_test_of, point_test_of, release_test_of}

abbrev pub pairs_in : Bor (List pair_type.Pair) → List (Pair Spot)
pairs_in ps = map placed_pair ps.now

-- the tests of the first row of a kind with these names
abbrev pub tests_named : List (Row Spot) → Kind → List ℕ → List ℕ → Option (List (Pair Spot))
tests_named rows k a b = option_map tests_of (find (named k a b) rows)

-- what lies beyond a joint
abbrev pub beyond_of : Index → Far Spot → Beyond
beyond_of ix (far_segment x) = Segment (segment_number ix x)
beyond_of ix far_outside = Outside
beyond_of ix far_buffer = BufferStop

abbrev pub joint_for : Index → Spot → Spot → Far Spot → JointEntry
joint_for ix x s f = record { name = x.1; segment = segment_number ix s; beyond = beyond_of ix f }

-- what the point's row to one side tests
abbrev pub move_for : Index → List (Row Spot) → Kind → Spot → List PointTest
move_for ix rows k x = filter_map (point_test_of ix) (unwrap_or (tests_named rows k x.1 []) [])

abbrev pub point_for : Index → List (Row Spot) → Spot → Spot → PointEntry
point_for ix rows x s =
    record { name = x.1; home = segment_number ix s; normal = move_for ix rows kind.NormalMove x; reverse = move_for ix rows kind.ReverseMove x }

abbrev pub way_for : Index → Spot → Spot → Spot → List (Pair Spot) → WayEntry
way_for ix s a b ps =
    record { segment = segment_number ix s; from = joint_number ix a; to = joint_number ix b; settings = filter_map (setting_of ix) ps }

abbrev pub signal_for : Index → Spot → Spot → Signal
signal_for ix j s = record { joint = joint_number ix j; segment = segment_number ix s }

-- a route with its activation row
abbrev pub route_for : Index → List (Row Spot) → Spot → List (Pair Spot) → List (Pair Spot) → RouteEntry
route_for ix rows x ts us =
    record {
      name = x.1;
      tests = filter_map (request_test_of ix) ts;
      actions = filter_map (action_of ix) us;
      activation = filter_map (activation_test_of ix) (unwrap_or (tests_named rows kind.Activation x.1 []) []);
    }

-- the release row of the subroute with this number from a to b: where another way comes first between these
-- joints, the name is that way's
abbrev pub release_for : Index → List (Row Spot) → ℕ → Spot → Spot → Option (List ReleaseTest)
release_for ix rows u a b =
    cond (subroute_number ix a b == u) (option_map (filter_map (release_test_of ix)) (tests_named rows kind.Release a.1 b.1)) None

abbrev pub zone_for : Index → Spot → List (Pair Spot) → ZoneEntry
zone_for ix x ts = record { name = x.1; tests = filter_map (release_test_of ix) ts }
