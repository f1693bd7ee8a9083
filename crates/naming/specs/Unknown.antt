-- Names that a text uses and nothing declares.
use Rattle.std.specs.Prelude.{ℕ, cond, List, [], Some, None, Option}
use Rattle.firsts.specs.Search.{or_else}
use Rattle.firsts.specs.Picks.{first_in}
use Rattle.forms.specs.Things.{Spot, Thing, segment, point, route, zone, subroute}
use Rattle.rows.specs.Rows.{Pair, Far, far_segment, far_outside, far_buffer, Row, segment_row, joint_row, point_row, way_row, signal_row, request_row, activation_row, move_row, release_row, zone_row}
use Rattle.naming.specs.Keys.{declared}
use Rattle.naming.specs.Index.{Index, is_declared}

-- the offset of the word that has a thing's name
abbrev pub thing_at : Thing Spot → ℕ
thing_at (segment x) = x.0
thing_at (point x) = x.0
thing_at (route x) = x.0
thing_at (zone x) = x.0
thing_at (subroute a b) = a.0

-- the offset of a thing that nothing declares
abbrev pub unknown_thing : Index → Thing Spot → Option ℕ
unknown_thing ix th = cond (is_declared ix th) None (Some (thing_at th))

abbrev pub unknown_joint : Index → Spot → Option ℕ
unknown_joint ix x = cond (declared ix.joints x.1 []) None (Some x.0)

abbrev pub unknown_far : Index → Far Spot → Option ℕ
unknown_far ix (far_segment x) = unknown_thing ix (segment x)
unknown_far ix far_outside = None
unknown_far ix far_buffer = None

-- the first of a list of pairs
abbrev pub unknown_pair : Index → Pair Spot → Option ℕ
unknown_pair ix p = unknown_thing ix p.thing

abbrev pub unknown_in : Index → List (Pair Spot) → Option ℕ
unknown_in ix ps = first_in (unknown_pair ix) ps

-- the first of a row, in the order of its words; a segment's, a request's and a zone's row declare their heads
abbrev pub unknown_in_row : Index → Row Spot → Option ℕ
unknown_in_row ix (segment_row x) = None
unknown_in_row ix (joint_row x s f) = or_else (unknown_thing ix (segment s)) (unknown_far ix f)
unknown_in_row ix (point_row x s) = unknown_thing ix (segment s)
unknown_in_row ix (way_row s a b ps) =
    or_else (or_else (or_else (unknown_thing ix (segment s)) (unknown_joint ix a)) (unknown_joint ix b)) (unknown_in ix ps)
unknown_in_row ix (signal_row j s) = or_else (unknown_joint ix j) (unknown_thing ix (segment s))
unknown_in_row ix (request_row x ts us) = or_else (unknown_in ix ts) (unknown_in ix us)
unknown_in_row ix (activation_row x ts) = or_else (unknown_thing ix (route x)) (unknown_in ix ts)
unknown_in_row ix (move_row x p ts) = or_else (unknown_thing ix (point x)) (unknown_in ix ts)
unknown_in_row ix (release_row a b ts) = or_else (unknown_thing ix (subroute a b)) (unknown_in ix ts)
unknown_in_row ix (zone_row x ts) = unknown_in ix ts

-- the first of all rows
abbrev pub first_unknown : Index → List (Row Spot) → Option ℕ
first_unknown ix rows = first_in (unknown_in_row ix) rows
