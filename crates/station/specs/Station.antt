-- A station in plain lists and numbers: what the tables say.
use Rattle.std.specs.Prelude.{ℕ, List, [], map, vec_items, Option}
use Rattle.std.specs.Option.{option_map}
use Rattle.station.specs.declared.names.Name.{Name}
use Rattle.station.specs.declared.tests.Action.{Action}
use Rattle.station.specs.declared.tests.ActivationTest.{ActivationTest}
use Rattle.station.specs.declared.tests.PointTest.{PointTest}
use Rattle.station.specs.declared.tests.ReleaseTest.{ReleaseTest}
use Rattle.station.specs.declared.tests.RequestTest.{RequestTest}
use Rattle.station.specs.declared.tables.Beyond.{Beyond}
use Rattle.station.specs.declared.tables.Segment.{Segment}
use Rattle.station.specs.declared.tables.Joint.{Joint}
use Rattle.station.specs.declared.tables.Point.{Point}
use Rattle.station.specs.declared.tables.Setting.{Setting}
use Rattle.station.specs.declared.tables.Signal.{Signal}
use Rattle.station.specs.declared.tables.Way.{Way}
use Rattle.station.specs.declared.tables.Route.{Route}
use Rattle.station.specs.declared.tables.Zone.{Zone}
use Rattle.station.specs.declared.tables.Tables.{Tables}

-- a joint between its segment and what lies beyond
pub record JointEntry : Type 0 where
  pub name : List ℕ
  pub segment : ℕ
  pub beyond : Beyond

-- a point, its home segment, and what its N row and its R row test
pub record PointEntry : Type 0 where
  pub name : List ℕ
  pub home : ℕ
  pub normal : List PointTest
  pub reverse : List PointTest

-- a way through a segment, from one joint to another
pub record WayEntry : Type 0 where
  pub segment : ℕ
  pub from : ℕ
  pub to : ℕ
  pub settings : List Setting

-- a route: what its request tests and does, and what its activation tests
pub record RouteEntry : Type 0 where
  pub name : List ℕ
  pub tests : List RequestTest
  pub actions : List Action
  pub activation : List ActivationTest

-- a zone and what its release tests
pub record ZoneEntry : Type 0 where
  pub name : List ℕ
  pub tests : List ReleaseTest

-- A thing's number is its place in its list. Subroute 2w runs way w as written, 2w + 1 against that;
-- `releases` has the release row of each subroute, by number, where there is one.
pub record Station : Type 0 where
  pub segments : List (List ℕ)
  pub joints : List JointEntry
  pub points : List PointEntry
  pub ways : List WayEntry
  pub signals : List Signal
  pub routes : List RouteEntry
  pub releases : List (Option (List ReleaseTest))
  pub zones : List ZoneEntry

abbrev pub empty : Station
empty = record { segments = []; joints = []; points = []; ways = []; signals = []; routes = []; releases = []; zones = [] }

abbrev pub octets : Name → List ℕ
octets n = vec_items n.octets

abbrev pub segment_entry : Segment → List ℕ
segment_entry s = octets s.name

abbrev pub joint_entry : Joint → JointEntry
joint_entry j = record { name = octets j.name; segment = j.segment; beyond = j.beyond }

abbrev pub point_entry : Point → PointEntry
point_entry p =
    record { name = octets p.name; home = p.home; normal = vec_items p.normal; reverse = vec_items p.reverse }

abbrev pub way_entry : Way → WayEntry
way_entry w = record { segment = w.segment; from = w.from; to = w.to; settings = vec_items w.settings }

abbrev pub route_entry : Route → RouteEntry
route_entry r =
    record { name = octets r.name; tests = vec_items r.tests; actions = vec_items r.actions; activation = vec_items r.activation }

abbrev pub zone_entry : Zone → ZoneEntry
zone_entry z = record { name = octets z.name; tests = vec_items z.tests }

-- what the tables say
abbrev pub station : Tables → Station
station t =
    record {
      segments = map segment_entry (vec_items t.segments);
      joints = map joint_entry (vec_items t.joints);
      points = map point_entry (vec_items t.points);
      ways = map way_entry (vec_items t.ways);
      signals = vec_items t.signals;
      routes = map route_entry (vec_items t.routes);
      releases = map (option_map (λ v. vec_items v)) (vec_items t.releases);
      zones = map zone_entry (vec_items t.zones);
    }
