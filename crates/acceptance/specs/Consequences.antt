-- What follows from the rules for trains on an accepted station.
use Rattle.std.specs.Prelude.{◌≡◌, ℕ, suc, ◌<◌, Bool, true, List, length, Contains}
use Rattle.station.specs.declared.tests.Position.{Position}
use Rattle.station.specs.declared.tests.Lock.{Lock}
use Rattle.station.specs.declared.tests.Lock.TheVariants.{Zone, Subroute}
use Rattle.station.specs.declared.tests.RequestTest.{RequestTest}
use Rattle.station.specs.declared.tests.RequestTest.TheVariants.{Free}
use Rattle.station.specs.declared.tests.PointTest.{PointTest}
use Rattle.station.specs.declared.tests.Action.TheVariants.{Drive}
use Rattle.station.specs.declared.tables.Beyond.TheVariants.{Segment}
use Rattle.station.specs.declared.tables.Setting.{Setting}
use Rattle.station.specs.Station.{Station}
use Rattle.station.specs.Numbers.{way_at, point_at, route_at}
use Rattle.station.specs.Subroutes.{subroutes, start, end, segment_of}
use Rattle.station.specs.Joints.{Touches, across}
use Rattle.station.specs.Paths.{path_length, on_path, Used}
use Rattle.station.specs.Covers.{Covers, PointGuards, RequestGuards}
use Rattle.layout_rules.specs.WayPairs.{ShareJoint}
use Rattle.route_rules.specs.Signals.{Into, Onward, last_of, past}
use Rattle.route_rules.specs.Request.{SoundRequest}
use Rattle.route_rules.specs.Activation.{SoundActivation}
use Rattle.lock_rules.specs.Release.{SoundRelease}
use Rattle.lock_rules.specs.Points.{RowsGuard}
use Rattle.conflicts.specs.Conflicts.{Meets}

-- the points lie as the settings say
abbrev pub Lie : (ℕ → Position) → List Setting → Type 0
Lie at xs = (x : Setting) → Contains xs x → at x.point ≡ x.position

-- where a zone is free, so are the subroutes that it covers
abbrev pub Covering : Station → (Lock → Bool) → Type 0
Covering s free = (z u : ℕ) → Covers s z u → free (Zone z) ≡ true → free (Subroute u) ≡ true

-- ways: in one segment and at one joint, however the points lie, at most one way fits; a subroute starts and ends at joints of its segment
pub record WayFacts (s : Station) : Type 0 where
  pub one_way : (v w : ℕ) → v < length s.ways → w < length s.ways → (way_at s v).segment ≡ (way_at s w).segment → ShareJoint (way_at s v) (way_at s w) → (at : ℕ → Position) → Lie at (way_at s v).settings → Lie at (way_at s w).settings → v ≡ w
  pub starts_here : (u : ℕ) → u < subroutes s → Touches s (start s u) (segment_of s u)
  pub ends_here : (u : ℕ) → u < subroutes s → Touches s (end s u) (segment_of s u)

-- a route's path: its subroutes run ways, each leads into the segment of the next, and no segment comes twice
pub record PathFacts (s : Station) (r : ℕ) : Type 0 where
  pub some : 0 < path_length s r
  pub runs : (k : ℕ) → k < path_length s r → on_path s r k < subroutes s
  pub joined : (k : ℕ) → suc k < path_length s r → end s (on_path s r k) ≡ start s (on_path s r (suc k))
  pub next : (k : ℕ) → suc k < path_length s r → across s (end s (on_path s r k)) (segment_of s (on_path s r k)) ≡ Segment (segment_of s (on_path s r (suc k)))
  pub once : (i k : ℕ) → i < path_length s r → k < path_length s r → segment_of s (on_path s r i) ≡ segment_of s (on_path s r k) → i ≡ k

-- its signals: one at the start, none at an inner joint along the path, and at the end one onward, or no segment
pub record SignalFacts (s : Station) (r : ℕ) : Type 0 where
  pub entry : Into s (on_path s r 0)
  pub inner : (k : ℕ) → suc k < path_length s r → Into s (on_path s r (suc k)) → ⊥
  pub exit : Onward s (end s (last_of s r)) (past s (last_of s r))

-- its rows: the request and the activation are sound, a point is driven to one side only,
-- and the request guards every used subroute of every segment of the path
pub record RowFacts (s : Station) (r : ℕ) : Type 0 where
  pub request : SoundRequest s r
  pub one_side : (p : ℕ) (x y : Position) → Contains (route_at s r).actions (Drive p x) → Contains (route_at s r).actions (Drive p y) → x ≡ y
  pub activation : SoundActivation s r
  pub guarded : (u : ℕ) → Used s u → Meets s r (segment_of s u) → RequestGuards s (route_at s r).tests u

pub record Consequences (s : Station) : Type 0 where
  pub ways : WayFacts s
  pub paths : (r : ℕ) → r < length s.routes → PathFacts s r
  pub signals : (r : ℕ) → r < length s.routes → SignalFacts s r
  pub rows : (r : ℕ) → r < length s.routes → RowFacts s r
  pub known : (u : ℕ) → Used s u → u < subroutes s
  pub releases : (u : ℕ) → Used s u → SoundRelease s u
  pub points : (p u : ℕ) → p < length s.points → Used s u → segment_of s u ≡ (point_at s p).home → RowsGuard s p u
  -- where what a row tests is free, so is every subroute that it guards
  pub request_frees : (free : Lock → Bool) → Covering s free → (ts : List RequestTest) → ((l : Lock) → Contains ts (Free l) → free l ≡ true) → (u : ℕ) → RequestGuards s ts u → free (Subroute u) ≡ true
  pub point_frees : (free : Lock → Bool) → Covering s free → (ts : List PointTest) → ((t : PointTest) → Contains ts t → free t.free ≡ true) → (u : ℕ) → PointGuards s ts u → free (Subroute u) ≡ true
