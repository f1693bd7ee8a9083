-- Rows that a station must have and that a text lacks.
use Rattle.std.specs.Prelude.{Bool, false, not, ◌||◌, List, []}
use Rattle.firsts.specs.Lists.{any}
use Rattle.forms.specs.Things.{Spot, Thing, segment, point, route, zone, subroute}
use Rattle.rows.specs.declared.filters.Kind.TheVariants as kind
use Rattle.rows.specs.Filters.{full, known}
use Rattle.rows.specs.Rows.{Pair, Row, segment_row, joint_row, point_row, way_row, signal_row, request_row, activation_row, move_row, release_row, zone_row}

-- a subroute without a release row
abbrev pub unreleased : List (Row Spot) → Thing Spot → Bool
unreleased rows (segment x) = false
unreleased rows (point x) = false
unreleased rows (route x) = false
unreleased rows (zone x) = false
unreleased rows (subroute a b) = not (known rows kind.Release a.1 b.1)

abbrev pub unreleased_pair : List (Row Spot) → Pair Spot → Bool
unreleased_pair rows p = unreleased rows p.thing

-- a route wants an activation row and a release row for each subroute that it locks; a point wants both its rows
abbrev pub lacking : List (Row Spot) → Row Spot → Bool
lacking rows (segment_row x) = false
lacking rows (joint_row x s f) = false
lacking rows (point_row x s) = not (known rows kind.NormalMove x.1 []) || not (known rows kind.ReverseMove x.1 [])
lacking rows (way_row s a b ps) = false
lacking rows (signal_row j s) = false
lacking rows (request_row x ts us) = not (known rows kind.Activation x.1 []) || any (unreleased_pair rows) us
lacking rows (activation_row x ts) = false
lacking rows (move_row x p ts) = false
lacking rows (release_row a b ts) = false
lacking rows (zone_row x ts) = false

-- there is no segment or no route, or a row lacks another
abbrev pub incomplete : List (Row Spot) → Bool
incomplete rows = not (full rows kind.Segment 1) || (not (full rows kind.Request 1) || any (lacking rows) rows)
