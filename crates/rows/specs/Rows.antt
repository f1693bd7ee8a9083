-- The rows of a text. N is what stands for a name: its octets, or these with the offset of its word.
use Rattle.std.specs.Prelude.{List, [], map, vec_items}
use Rattle.station.specs.declared.tests.Position.{Position}
use Rattle.forms.specs.declared.states.State.{State}
use Rattle.forms.specs.Things.{Spot, Thing, spot, placed}
use Rattle.rows.specs.declared.rows.Pair as pair_type
use Rattle.rows.specs.declared.rows.Far as far_type
use Rattle.rows.specs.declared.rows.Far.TheVariants as far_code
use Rattle.rows.specs.declared.rows.Row as row_type
use Rattle.rows.specs.declared.rows.Row.TheVariants as code

-- a thing and its state
pub record Pair (N : Type 0) : Type 0 where
  pub thing : Thing N
  pub state : State

-- what lies on the far side of a joint
pub data Far (N : Type 0) : Type 0 where
  far_segment : N → Far N
  far_outside : Far N
  far_buffer : Far N

pub data Row (N : Type 0) : Type 0 where
  -- a segment
  segment_row : N → Row N
  -- a joint, its segment, and what lies beyond
  joint_row : N → N → Far N → Row N
  -- a point and its home segment
  point_row : N → N → Row N
  -- a way's segment, its two joints and its settings
  way_row : N → N → N → List (Pair N) → Row N
  -- a signal's joint and segment
  signal_row : N → N → Row N
  -- a route, what its request tests and what it then does
  request_row : N → List (Pair N) → List (Pair N) → Row N
  -- a route and what its activation tests
  activation_row : N → List (Pair N) → Row N
  -- a point, a position, and what is tested before it is driven there
  move_row : N → Position → List (Pair N) → Row N
  -- a subroute's two joints and what its release tests
  release_row : N → N → List (Pair N) → Row N
  -- a zone and what its release tests
  zone_row : N → List (Pair N) → Row N

abbrev pub placed_pair : pair_type.Pair → Pair Spot
placed_pair p = record { thing = placed p.thing; state = p.state }

abbrev pub placed_far : far_type.Far → Far Spot
placed_far (far_code.Segment n) = far_segment (spot n)
placed_far far_code.Outside = far_outside
placed_far far_code.BufferStop = far_buffer

-- a row of the code with its names as spots
abbrev pub placed_row : row_type.Row → Row Spot
placed_row (code.Segment n) = segment_row (spot n)
placed_row (code.Joint j) = joint_row (spot j.name) (spot j.segment) (placed_far j.far)
placed_row (code.Point p) = point_row (spot p.name) (spot p.home)
placed_row (code.Way w) = way_row (spot w.segment) (spot w.from) (spot w.to) (map placed_pair (vec_items w.settings))
placed_row (code.Signal s) = signal_row (spot s.joint) (spot s.segment)
placed_row (code.Request q) = request_row (spot q.route) (map placed_pair (vec_items q.tests)) (map placed_pair (vec_items q.actions))
placed_row (code.Activation a) = activation_row (spot a.route) (map placed_pair (vec_items a.tests))
placed_row (code.Move m) = move_row (spot m.point) m.position (map placed_pair (vec_items m.tests))
placed_row (code.Release u) = release_row (spot u.from) (spot u.to) (map placed_pair (vec_items u.tests))
placed_row (code.Zone z) = zone_row (spot z.zone) (map placed_pair (vec_items z.tests))

-- what a row tests; of a way, its settings
abbrev pub tests_of : {N : Type 0} → Row N → List (Pair N)
tests_of (segment_row x) = []
tests_of (joint_row x s f) = []
tests_of (point_row x s) = []
tests_of (way_row s a b ps) = ps
tests_of (signal_row j s) = []
tests_of (request_row x ts us) = ts
tests_of (activation_row x ts) = ts
tests_of (move_row x p ts) = ts
tests_of (release_row a b ts) = ts
tests_of (zone_row x ts) = ts
